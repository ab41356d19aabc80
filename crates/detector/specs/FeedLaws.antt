-- Each way through a feed: the reply table, and what is left.
use Rattle.std.specs.Prelude.{◌≡◌, Bool, cond, ℕ, ◌+◌, ◌^◌, ◌<◌, ◌≤◌, ltb, take, drop, Ok, Err}
use Rattle.std.proofs.Math.Path.{refl, sym, ap, subst}
use Rattle.std.proofs.Common.{◌∙◌, zero-add, arith, length-drop, length-take}
use Rattle.std.proofs.Math.Bool.{true, false}
use mathlib.Core.List.{List, [], ◌∷◌, ◌++◌}
use Rattle.std.proofs.Math.Nat.{add-zero}
use Rattle.std.proofs.Math.ListN.{length}
use borrow.Author.Tests.{ltb-false, lt-ltb, le-ltb}
use Rattle.laws.specs.Limit.{limit}
use Rattle.laws.specs.Lists.{count, count_append}
use Rattle.context.specs.Context.{bytes_of}
use Rattle.tables.specs.Own.{place_count}
use Rattle.tables.specs.Tables.{Tables, Sized, sized_b}
use Rattle.tables.specs.TablesLaws.{sized_true, true_sized}
use Rattle.places.specs.Order.{SlateFor}
use Rattle.places.specs.Fed.{fed_each, slate_fed, AllKnown, SlateKnown}
use Rattle.places.specs.FedLaws.{slate_fed_lem}
use Rattle.places.specs.Slate.{feed_all}
use Rattle.places.specs.Kept.{AllKept}
use Rattle.places.specs.SlateLaws.{feed_all_nil, nil_kept, fed_slate, slate_unfed}
use Rattle.places.specs.declared.place.Place.{Place}
use Rattle.detector.specs.Feed.{Verdict, verdict_of, refusal_of, places_by, advance_of, fed, accepted, feed_by, feed_of}
use Rattle.detector.specs.Kept.{Passed, StaysIn}
use Rattle.state.specs.State.{flag_of, triggered, start_of, started_of}
use Rattle.state.specs.StartLaws.{start_refused}
use Rattle.state.specs.declared.Started.{Started}
use Rattle.detector.specs.Front.{trigger_of, Reaches, none, some, reaches_of, bytes_in, counted, uncounted}
use Rattle.detector.specs.Due.{due_as, DueBy}
use Rattle.detector.specs.FrontLaws.{body_more, body_most, triggerless_count}
use Rattle.state.specs.Order.{InOrder, state_b}
use Rattle.state.specs.OrderLaws.{order_true, true_order, start_in_order}
use Rattle.detector.specs.OrderLaws.{KeptBy, advance_in_order}
use Rattle.state.specs.declared.reply.Reply.{Reply}
use Rattle.state.specs.declared.reply.Reply.TheVariants.{Closed, WrongLength, TooLong, NotInOrder}
use Rattle.detector.specs.declared.front.Due.{Due}
use Rattle.detector.specs.declared.front.Due.TheVariants.{Nothing, Part, After}
use Rattle.state.specs.declared.front.Front.{Front}
use Rattle.state.specs.declared.State.{State}

-- ---- the tests, one after the other
module _ (s : State) (sized : Bool) (n : ℕ) where
  pub judged_order : state_b s ≡ false → Err NotInOrder ≡ verdict_of s sized n
  unfolding verdict_of
  judged_order e = rw e

  module _ (a : state_b s ≡ true) where
    pub judged_closed : s.front.closed ≡ true → Err (Closed (flag_of s.front)) ≡ verdict_of s sized n
    unfolding verdict_of
    judged_closed e = rw (a, e)

    module _ (b : s.front.closed ≡ false) where
      pub judged_length : sized ≡ false → Err (WrongLength (flag_of s.front)) ≡ verdict_of s sized n
      unfolding verdict_of
      judged_length e = rw (a, b, e)

      module _ (c : sized ≡ true) where
        pub judged_long : limit < s.front.bytes + n → Err (TooLong (flag_of s.front)) ≡ verdict_of s sized n
        unfolding verdict_of
        judged_long h = rw (a, b, c, lt-ltb limit (s.front.bytes + n) h)

        pub judged_accept : s.front.bytes + n ≤ limit → Ok tt ≡ verdict_of s sized n
        unfolding verdict_of
        judged_accept h = rw (a, b, c, le-ltb limit (s.front.bytes + n) h)

-- ---- refused: in order, unless that was the reason
no : {A : Type 0} {r : Reply} → ◌≡◌ {A = Verdict} (Ok tt) (Err r) → A
no e = absurd (let q : ◌≡◌ {A = ℕ} 0 1 = cc in omega arith)

no_accept : {A : Type 0} {r : Reply} → ◌≡◌ {A = Verdict} (Err r) (Ok tt) → A
no_accept e = absurd (let q : ◌≡◌ {A = ℕ} 0 1 = cc in omega arith)

same : {x y : Reply} → ◌≡◌ {A = Verdict} (Err x) (Err y) → x ≡ y
same e = cc

-- what the four tests give
abbrev tests : State → Bool → Bool → Bool → Bool → Verdict
tests s a b c d = cond a (cond b (Err (Closed (flag_of s.front))) (cond c (cond d (Err (TooLong (flag_of s.front))) (Ok tt)) (Err (WrongLength (flag_of s.front))))) (Err NotInOrder)

module _ (s : State) (n : ℕ) where
  refused_at : (a b c d : Bool) (r : Reply) → state_b s ≡ a → ◌≡◌ {A = Verdict} (tests s a b c d) (Err r) → StaysIn r s
  refused_at false b c d r e q = subst (λ (x : Reply). StaysIn x s) (same q) tt
  refused_at true true c d r e q = subst (λ (x : Reply). StaysIn x s) (same q) (order_true s e)
  refused_at true false false d r e q = subst (λ (x : Reply). StaysIn x s) (same q) (order_true s e)
  refused_at true false true true r e q = subst (λ (x : Reply). StaysIn x s) (same q) (order_true s e)
  refused_at true false true false r e q = no q

  pub refused_stays : (sized : Bool) (r : Reply) → Err r ≡ verdict_of s sized n → StaysIn r s
  unfolding verdict_of
  refused_stays sized r q = refused_at (state_b s) s.front.closed sized (ltb limit (s.front.bytes + n)) r refl (sym q)

-- ---- accepted: what the tests have shown
module _ (t : Tables) (s : State) (xs : List ℕ) where
  accept_at : (a b c d : Bool) → state_b s ≡ a → s.front.closed ≡ b → sized_b t ≡ c → ltb limit (s.front.bytes + length xs) ≡ d → ◌≡◌ {A = Verdict} (tests s a b c d) (Ok tt) → Passed t s xs
  accept_at false b c d p q r u e = no_accept e
  accept_at true true c d p q r u e = no_accept e
  accept_at true false false d p q r u e = no_accept e
  accept_at true false true true p q r u e = no_accept e
  accept_at true false true false p q r u e =
      let o = order_true s p in
      record { sized = sized_true t r; in_order = o; going = q; short = ltb-false limit (s.front.bytes + length xs) u }

  pub accept_passed : Ok tt ≡ refusal_of t s xs → Passed t s xs
  unfolding verdict_of
  accept_passed e = accept_at (state_b s) s.front.closed (sized_b t) (ltb limit (s.front.bytes + length xs)) refl refl refl refl (sym e)

-- ---- the whole
module _ (t : Tables) (s : State) (xs : List ℕ) (last : Bool) where
  pub feed_refused : (r : Reply) → Err r ≡ refusal_of t s xs → fed s r ≡ feed_of t s xs last
  unfolding feed_by
  feed_refused r e = rw (sym e)

  pub feed_accepted : Ok tt ≡ refusal_of t s xs → accepted (advance_of t s xs last) ≡ feed_of t s xs last
  unfolding feed_by
  feed_accepted e = rw (sym e)

-- what passes the tests is accepted
pub fit_accepted : (t : Tables) (s : State) (xs : List ℕ) → Passed t s xs → (last : Bool) → feed_of t s xs last ≡ accepted (advance_of t s xs last)
fit_accepted t s xs passed last =
    sym (feed_accepted t s xs last (judged_accept s (sized_b t) (length xs) (true_order s passed.in_order) passed.going (true_sized t passed.sized) passed.short))

pub first_passed : (t : Tables) → Sized t → (bits : ℕ) (xs : List ℕ) → length xs ≤ limit → Passed t (start_of bits) xs
first_passed t z bits xs h = record { sized = z; in_order = start_in_order bits; going = refl; short = omega (arith, h) }

-- a state whose start was refused takes a chunk like any other: no place takes part in it
pub refused_start_feeds : (t : Tables) → Sized t → (bits : ℕ) → 2 ^ place_count ≤ bits → (xs : List ℕ) → length xs ≤ limit → (last : Bool) → feed_of t (started_of bits).state xs last ≡ accepted (advance_of t (start_of 0) xs last)
refused_start_feeds t z bits r xs h last =
    ap (λ (s : Started). feed_of t s.state xs last) (start_refused bits r) ∙ fit_accepted t (start_of 0) xs (first_passed t z 0 xs h) last

-- ---- the advance
module _ (t : Tables) (s : State) (xs : List ℕ) (last : Bool) (passed : Passed t s xs) where
  -- the front after the chunk, uncounted
  abbrev after : Front
  after = uncounted s.front xs last (trigger_of s.front xs)

  body_grows : s.front.body ≤ after.body
  body_grows = body_more s.front.body xs (trigger_of s.front xs)

  pub body_short : after.body ≤ limit
  body_short = omega (arith, body_most s.front.body xs (trigger_of s.front xs), passed.in_order.front.bodied, passed.short)

  -- what the code's answer d says
  module _ (d : Due) (due : DueBy s.front.context (trigger_of s.front xs) d) where
    abbrev Result : State → Type 0
    Result r = (r ≡ advance_of t s xs last) × InOrder r

    -- from the reach that d stands for, and what the code knows of the places
    advanced : (x : Reaches) → due_as s.front.context xs d ≡ x → KeptBy t last after.body s.places x → Result (record { front = counted after (bytes_in x); places = places_by t last after.body s.places x })
    unfolding advance_of
    advanced x e k =
        let q : x ≡ reaches_of s.front xs = sym e ∙ due xs in
        let r : record { front = counted after (bytes_in x); places = places_by t last after.body s.places x } ≡ advance_of t s xs last = rw q in
        (r, subst InOrder (sym r) (advance_in_order t s xs last passed (rw q at k)))

    -- nothing reaches the places
    counted_nil : (f : Front) → counted f [] ≡ f
    unfolding count
    counted_nil f = rw add-zero

    pub way_nothing : d ≡ Nothing → (next : Front) → next ≡ after → Result (record { front = next; places = s.places })
    unfolding due_as places_by
    way_nothing q next e =
        subst (λ (x : Front). Result (record { front = x; places = s.places })) (counted_nil after ∙ sym e) (advanced none (rw q) tt)

    -- the chunk from n on
    module _ (n : ℕ) (q : d ≡ Part n) (part : List ℕ) (from : part ≡ drop n xs) where
      slate_before : SlateFor s.front.bytes s.front.body false (triggered s.front) s.places
      slate_before = rw passed.going at passed.in_order.slate

      part_short : s.front.bytes + length part ≤ limit
      part_short = rw (from, length-drop) (omega (arith, passed.short))

      pub way_part : (next front : Front) (r : List Place) → next ≡ after → front ≡ counted next part → r ≡ slate_fed t last next.body part s.places → SlateKnown t last next.body part s.places → Result (record { front = front; places = r })
      unfolding due_as places_by
      way_part next front r a b e k =
          let known : SlateKnown t last after.body part s.places = subst (λ (f : Front). SlateKnown t last f.body part s.places) a k in
          let w = slate_fed_lem t passed.sized s.front.bytes s.front.body after.body body_grows body_short part part_short last (triggered s.front) s.places slate_before known in
          let nil = feed_all_nil t 0 s.places in
          let kept : AllKept t last after.body part s.places = w.1 in
          let same : slate_fed t last after.body part s.places ≡ r = ap (λ (f : Front). slate_fed t last f.body part s.places) (sym a) ∙ sym e in
          let places : feed_all t last after.body part (feed_all t false 0 [] s.places) ≡ r = ap (feed_all t last after.body part) nil ∙ (sym w.0 ∙ same) in
          let fronts : counted after part ≡ front = ap (λ (f : Front). counted f part) (sym a) ∙ sym b in
          subst (λ (x : Front). Result (record { front = x; places = r })) fronts
          (subst (λ (ps : List Place). Result (record { front = counted after part; places = ps })) places
          (advanced (some [] part) (rw (q, from)) (nil_kept t 0 0 s.places, rw nil kept)))

    -- the saved context, and then the whole chunk
    module _ (k : ℕ) (q : d ≡ After k) (lent : take k (s.front.context.first ∷ s.front.context.second ∷ []) ≡ bytes_of s.front.context) (new : triggered s.front ≡ false) (before : List ℕ) (saved : before ≡ take k (s.front.context.first ∷ s.front.context.second ∷ [])) where
      unfed : SlateFor 0 0 false false s.places
      unfed = slate_unfed s.front.bytes 0 s.front.body 0 false s.places (omega arith) (rw (passed.going, new) at passed.in_order.slate)

      -- it is of the stream's own bytes
      before_short : length before ≤ s.front.bytes
      before_short = rw (saved, lent) (rw length-take (omega (arith, passed.in_order.front.held)))

      -- the context is ASCII
      before_uncounted : (f : Front) → counted f (before ++ xs) ≡ counted f xs
      before_uncounted f = rw (saved, lent, count_append, triggerless_count (bytes_of s.front.context) passed.in_order.front.saved.triggerless, zero-add)

      pub way_after : (next front : Front) (r : List Place) → next ≡ after → front ≡ counted next xs → r ≡ slate_fed t last next.body xs (fed_each t 0 before s.places) → AllKnown t before s.places → SlateKnown t last next.body xs (fed_each t 0 before s.places) → Result (record { front = front; places = r })
      unfolding due_as places_by
      way_after next front r a b e k l =
          let body = after.body in
          let hot = feed_all t false 0 before s.places in
          let y = slate_fed_lem t passed.sized 0 0 0 (omega arith) (omega arith) before (omega (arith, before_short, passed.short)) false false s.places unfed k in
          let slate = fed_slate t false 0 before false 0 0 s.places (omega (arith, before_short, passed.short)) (omega arith) y.1 unfed in
          let known : SlateKnown t last after.body xs (feed_all t false 0 before s.places) = subst (λ (f : Front). SlateKnown t last f.body xs (feed_all t false 0 before s.places)) a (subst (SlateKnown t last next.body xs) y.0 l) in
          let z = slate_fed_lem t passed.sized (0 + length before) 0 body (omega arith) body_short xs (omega (arith, before_short, passed.short)) last true hot slate known in
          let same : r ≡ slate_fed t last after.body xs hot = e ∙ (ap (slate_fed t last next.body xs) y.0 ∙ ap (λ (f : Front). slate_fed t last f.body xs hot) a) in
          let places : feed_all t last after.body xs (feed_all t false 0 before s.places) ≡ r = sym (same ∙ z.0) in
          let plain : counted after (before ++ xs) ≡ front = before_uncounted after ∙ (ap (λ (f : Front). counted f xs) (sym a) ∙ sym b) in
          subst (λ (x : Front). Result (record { front = x; places = r })) plain
          (subst (λ (ps : List Place). Result (record { front = counted after (before ++ xs); places = ps })) places
          (advanced (some before xs) (rw (q, saved)) (y.1, z.1)))
