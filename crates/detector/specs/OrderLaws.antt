-- What an accepted chunk leaves is in order.
use Rattle.std.specs.Prelude.{◌≡◌, Bool, cond, ◌||◌, ℕ, ◌+◌, ◌-◌, ◌<◌, ◌≤◌, drop}
use Rattle.std.proofs.Math.Path.{refl}
use Rattle.std.proofs.Common.{sym, arith, length-take, length-drop}
use Rattle.std.proofs.Math.Bool.{true, false}
use mathlib.Core.List.{List, []}
use Rattle.std.proofs.Math.Nat.{add-zero}
use Rattle.std.proofs.Math.Dec.{ltb}
use Rattle.std.proofs.Math.ListN.{length}
use borrow.Author.Tests.{lt-ltb, ltb-true}
use Rattle.laws.specs.Limit.{limit}
use Rattle.laws.specs.Lists.{any, count, count_most}
use Rattle.laws.specs.Tests.{either}
use Rattle.octets.specs.Octets.{non_ascii}
use Rattle.context.specs.Context.{bytes_of}
use Rattle.context.specs.Head.{is_trigger, scan_of, non_ascii_count}
use Rattle.context.specs.HeadLaws.{FirstAt}
use Rattle.context.specs.declared.Context.{Context}
use Rattle.context.specs.declared.Scanned.{Scanned}
use Rattle.context.specs.declared.Scanned.TheVariants as scanned
use Rattle.tables.specs.Tables.{Tables}
use Rattle.places.specs.Order.{SlateFor}
use Rattle.places.specs.Slate.{feed_all}
use Rattle.places.specs.Kept.{AllKept}
use Rattle.places.specs.SlateLaws.{slate_more, slate_unfed, fed_slate, feed_all_nil}
use Rattle.places.specs.declared.place.Place.{Place}
use Rattle.detector.specs.Feed.{places_by, advance_of}
use Rattle.detector.specs.Kept.{Passed}
use Rattle.state.specs.State.{triggered}
use Rattle.detector.specs.Front.{found_as, trigger_of, Reaches, none, some, reaches_at, reaches_by, reaches_of, bytes_in, context_at, context_by, esc_by, body_by, counted, uncounted}
use Rattle.detector.specs.FrontLaws.{body_more, body_most, push_len, push_saved, no_trigger, escape_at, non_ascii_at, at_most, at_least}
use Rattle.state.specs.OrderLaws.{empty_saved}
use Rattle.state.specs.Order.{Saved, FrontFor, InOrder}
use Rattle.state.specs.declared.front.Front.{Front}
use Rattle.detector.specs.declared.front.Trigger.{Trigger}
use Rattle.detector.specs.declared.front.Trigger.TheVariants.{Earlier, Escape, NonAscii, Nowhere}
use Rattle.state.specs.declared.State.{State}

-- ---- an accepted chunk
-- what the code knows of the places that it fed
abbrev pub KeptBy : Tables → Bool → ℕ → List Place → Reaches → Type 0
KeptBy t last body ps none = Unit {0}
KeptBy t last body ps (some before part) = AllKept t false 0 before ps × AllKept t last body part (feed_all t false 0 before ps)

module _ (t : Tables) (last : Bool) (body : ℕ) (part : List ℕ) (ps : List Place) (n : ℕ) (short : n + length part ≤ limit) where
  -- after a trigger, a part
  whole : (b : ℕ) → b ≤ body → SlateFor n b false true ps → KeptBy t last body ps (some [] part) → SlateFor (n + length part) body last true (places_by t last body ps (some [] part))
  unfolding places_by
  whole b h o k = let e = feed_all_nil t 0 ps in rw e (fed_slate t last body part true n b ps short h (rw e at k.1) o)

  -- at the trigger, bytes of the head and then a part
  reached : (before : List ℕ) → length before ≤ n → SlateFor 0 0 false false ps → KeptBy t last body ps (some before part) → SlateFor (n + length part) body last true (places_by t last body ps (some before part))
  unfolding places_by
  reached before h o k =
      let hot = feed_all t false 0 before ps in
      let warm = fed_slate t false 0 before false 0 0 ps (omega arith) (omega arith) k.0 o in
      fed_slate t last body part true n 0 hot short (omega arith) k.1 (slate_more (0 + length before) n 0 0 true hot (omega arith) (omega arith) (omega arith) warm)

-- a trigger that was met leaves nothing to ask
met : {n : ℕ} (t : Bool) → t ≡ true → t ≡ false → n ≡ 0
met t p q = cc

module _ (t : Tables) (s : State) (xs : List ℕ) (last : Bool) (passed : Passed t s xs) where
  abbrev front : Front
  front = s.front

  o : FrontFor s.front
  o = passed.in_order.front

  slate_before : SlateFor s.front.bytes s.front.body false (triggered s.front) s.places
  slate_before = rw passed.going at passed.in_order.slate

  -- the front, from what its parts come to
  front_for : (g : Trigger) → Saved (context_by front.context xs g) → (context_by front.context xs g).len ≤ front.bytes + length xs → (r : Reaches) → non_ascii_count (bytes_in r) ≤ length xs → (triggered (counted (uncounted front xs last g) (bytes_in r)) ≡ false → body_by front.body xs g ≡ 0) → FrontFor (counted (uncounted front xs last g) (bytes_in r))
  front_for g saved held r few headed =
      record { most = passed.short; counted = omega (arith, o.counted, few); held = held; bodied = omega (arith, body_most front.body xs g, o.bodied); headed = headed; saved = saved }

  at_saved : (n : ℕ) → Saved (context_at front.context n)
  unfolding context_at
  at_saved n = either Saved (ltb n 2) (λ e. empty_saved) (λ e. o.saved)

  at_held : (n : ℕ) → (context_at front.context n).len ≤ front.bytes + length xs
  unfolding context_at
  at_held n = either (λ (c : Context). c.len ≤ front.bytes + length xs) (ltb n 2) (λ e. omega arith) (λ e. omega (arith, o.held))

  -- the trigger in this chunk: places that were not fed yet
  at_slate : (body n : ℕ) → n < length xs → triggered front ≡ false → KeptBy t last body s.places (reaches_at front.context xs n) → SlateFor (front.bytes + length xs) body last true (places_by t last body s.places (reaches_at front.context xs n))
  unfolding reaches_at
  at_slate body n h e k = pick (ltb n 2) refl k
    where
      unfed : SlateFor 0 0 false false s.places
      unfed = slate_unfed front.bytes 0 front.body 0 false s.places (omega arith) (rw e at slate_before)

      pick : (b : Bool) → ltb n 2 ≡ b → KeptBy t last body s.places (cond b (some (bytes_of front.context) xs) (some [] (drop (n - 2) xs))) → SlateFor (front.bytes + length xs) body last true (places_by t last body s.places (cond b (some (bytes_of front.context) xs) (some [] (drop (n - 2) xs))))
      pick true q f =
          reached t last body xs s.places front.bytes passed.short (bytes_of front.context) (omega (arith, o.held, held_length)) unfed f
        where
          held_length : length (bytes_of front.context) ≤ front.context.len
          held_length = rw length-take (omega arith)
      pick false q f =
          let e : front.bytes + (n - 2) + length (drop (n - 2) xs) ≡ front.bytes + length xs = rw length-drop (omega arith) in
          rw e at (reached t last body (drop (n - 2) xs) s.places (front.bytes + (n - 2)) (rw e passed.short) [] (omega arith) unfed f)

  -- each way of the trigger
  abbrev Stays : Trigger → Type 0
  Stays g = KeptBy t last (body_by front.body xs g) s.places (reaches_by front.context xs g) → InOrder (record { front = counted (uncounted front xs last g) (bytes_in (reaches_by front.context xs g)); places = places_by t last (body_by front.body xs g) s.places (reaches_by front.context xs g) })

  stays_earlier : triggered front ≡ true → Stays Earlier
  unfolding context_by reaches_by esc_by
  stays_earlier e k =
      let grown = more front.esc_seen front.non_ascii_seen (non_ascii_count xs) e in
      record {
        front = front_for Earlier o.saved (omega (arith, o.held)) (some [] xs) (count_most non_ascii xs) (met _ grown);
        slate = rw grown (whole t last (body_by front.body xs Earlier) xs s.places front.bytes passed.short front.body (body_more front.body xs Earlier) (rw e at slate_before) k);
      }
    where
      more : (e : Bool) (n k : ℕ) → (e || ltb 0 n) ≡ true → (e || ltb 0 (n + k)) ≡ true
      more true n k h = refl
      more false n k h = lt-ltb 0 (n + k) (omega (arith, ltb-true 0 n h))

  stays_escape : (n : ℕ) → n < length xs → triggered front ≡ false → Stays (Escape n)
  unfolding context_by reaches_by esc_by
  stays_escape n h e k =
      record {
        front = front_for (Escape n) (at_saved n) (at_held n) (reaches_at front.context xs n) (at_most front.context o.saved xs n) (met true refl);
        slate = at_slate (body_by front.body xs (Escape n)) n h e k;
      }

  stays_non_ascii : (n : ℕ) → FirstAt (λ (b : ℕ). non_ascii b ≡ true) xs n → triggered front ≡ false → Stays (NonAscii n)
  unfolding context_by reaches_by esc_by
  stays_non_ascii n f e k =
      let some_more = at_least front.context o.saved xs n f in
      let grown = seen front.esc_seen front.non_ascii_seen (non_ascii_count (bytes_in (reaches_at front.context xs n))) some_more in
      record {
        front = front_for (NonAscii n) (at_saved n) (at_held n) (reaches_at front.context xs n) (at_most front.context o.saved xs n) (met _ grown);
        slate = rw grown (at_slate (body_by front.body xs (NonAscii n)) n f.within e k);
      }
    where
      seen : (e : Bool) (n k : ℕ) → 1 ≤ k → (e || ltb 0 (n + k)) ≡ true
      seen true n k h = refl
      seen false n k h = lt-ltb 0 (n + k) (omega arith)

  stays_nowhere : any is_trigger xs ≡ false → triggered front ≡ false → Stays Nowhere
  unfolding context_by reaches_by esc_by body_by places_by count
  stays_nowhere q e k =
      let p = push_len front.context xs o.saved.two in
      let same : triggered front ≡ triggered (counted (uncounted front xs last Nowhere) []) = rw add-zero in
      record {
        front = front_for Nowhere (push_saved front.context xs o.saved q) (omega (arith, p.1, o.held)) none (omega arith) (λ h. o.headed e);
        slate = rw (sym same, e) (slate_unfed front.bytes (front.bytes + length xs) front.body front.body last s.places passed.short (rw e at slate_before));
      }

  stays_found : (r : Scanned) → scan_of xs ≡ r → triggered front ≡ false → Stays (found_as r)
  stays_found (scanned.Escape n) q e = stays_escape n (escape_at xs n q) e
  stays_found (scanned.NonAscii n) q e = stays_non_ascii n (non_ascii_at xs n q) e
  stays_found scanned.End q e = stays_nowhere (no_trigger xs q) e

  stays_by : (b : Bool) → triggered front ≡ b → Stays (cond b Earlier (found_as (scan_of xs)))
  stays_by true e = stays_earlier e
  stays_by false e = stays_found (scan_of xs) refl e

  -- What an accepted chunk leaves is in order.
  pub advance_in_order : KeptBy t last (body_by front.body xs (trigger_of front xs)) s.places (reaches_of front xs) → InOrder (advance_of t s xs last)
  unfolding advance_of trigger_of
  advance_in_order k = stays_by (triggered front) refl k
