-- The test of the places decides, and places stay in order.
use Rattle.std.specs.Prelude.{◌≡◌, ℕ, ◌+◌, ◌-◌, ◌*◌, ◌≤◌, Bool, true, false, cond, not, ◌&&◌, ◌||◌, leb, List, length, ℤ, pos, negsuc, ◌==◌, nat_eq, nat_le, unsigned_abs, Ok, Err, eqb, Option, Some, None}
use Rattle.std.proofs.Math.Path.{refl, sym}
use Rattle.std.proofs.Common.{ap, subst, ◌∙◌, mul-le-mul_left}
use Rattle.std.proofs.Math.Bool.{and-false, and-true, and_comm}
use native.Mathlib.Omega.{arith}
use borrow.Author.Tests.{eqb-true, eq-eqb, leb-true, leb-false, le-leb, lt-leb}
use Rattle.laws.specs.Carried.{carried, Holds}
use Rattle.laws.specs.Each.{each_true, true_each}
use Rattle.laws.specs.Run.{Outcome, none, live, plus, run, ends_at, WhenNone, none_plus, none_more}
use Rattle.laws.specs.declared.Reason.{Reason}
use Rattle.laws.specs.declared.Reason.TheVariants.{Class255, BadByte, BadSecondByte, BrokenEscape, CutAtClose, NotInSlate}
use Rattle.laws.specs.Sizes.{abs_add}
use Rattle.laws.specs.Still.{Ends}
use Rattle.laws.proofs.Still.{from_zero}
use Rattle.laws.specs.Tests.{both, either}
use Rattle.weights.specs.Weights.{per_byte}
use Rattle.big5.specs.Big5 as big5
use Rattle.big5.specs.declared.Big5.{Big5 as Big5Record}
use Rattle.euckr.specs.EucKr as euckr
use Rattle.euckr.specs.declared.EucKr.{EucKr as EucKrRecord}
use Rattle.iso2022jp.specs.Iso2022Jp as iso2022jp
use Rattle.shift_jis.specs.ShiftJis as shiftJis
use Rattle.utf8.specs.Utf8 as utf-8
use Rattle.records.specs.Fresh.{fresh_b}
use Rattle.records.proofs.FreshLaws.{fresh_true, true_fresh}
use Rattle.kinds.specs.KindLaws.{Alike, fresh_alike, alike_place, alike_reach, reach_open, run_alike, close_alike}
use Rattle.kinds.specs.Kinds.{place_number, is_single, fresh_of, step_of, close_of, WeighedIn}
use Rattle.kinds.specs.KindsLaws.{utf_8_still, iso2022jp_still, shift_jis_still}
use Rattle.kinds.specs.Reasons.{byte_reason, end_reason}
use Rattle.kinds.specs.ReasonsLaws.{run_reason, close_reason}
use Rattle.kinds.specs.Kind.{Picked}
use Rattle.kinds.specs.Sound.{takes_space, reach_of, SoundFor, sound_b}
use Rattle.kinds.specs.SoundLaws.{sound_true, true_sound, sound_more, fresh_sound, run_sound, close_sound}
use Rattle.tables.specs.Own.{Own}
use Rattle.kinds.specs.declared.machine.Machine.{Machine}
use Rattle.kinds.specs.declared.machine.Machine.TheVariants.{Utf8, Iso2022Jp, EucKr, Big5, Caseless, Logical, Visual, ArabicFrench, ShiftJis}
use Rattle.places.specs.Order.{spaced_of, dropped_b, ScoredFor, ZeroOrNone, FedOr, PlaceFor, SlateFor, scored_b, zero_or_none_b, unfed_b, place_b, slate_b}
use Rattle.places.specs.Place.{place_as, byte_at, end_at, end_from, end_of}
use Rattle.places.specs.Steps.{asked_if, asked_of, answer_of}
use Rattle.places.specs.declared.order.Asked.{Asked}
use Rattle.places.specs.declared.order.Asked.TheVariants as asked
use Rattle.places.specs.declared.place.Place.{Place}
use Rattle.places.specs.Score.{Score, no_score}

-- ---- the test decides, in both directions
module _ (reach body : ℕ) (closed fed : Bool) (k : ℕ) (m : Machine) where
  scored_true : (s : Score) → scored_b reach body closed fed k m s ≡ true → ScoredFor reach body closed fed k m s
  unfolding scored_b
  scored_true (Err why) e = let h = both _ _ e in (fresh_true m h.0, h.1)
  scored_true (Ok s) e = leb-true _ _ e

  true_scored : (s : Score) → ScoredFor reach body closed fed k m s → scored_b reach body closed fed k m s ≡ true
  unfolding scored_b
  true_scored (Err why) e = rw (true_fresh m e.0, e.1)
  true_scored (Ok s) e = le-leb _ _ e

abs_zero : (z : ℤ) → unsigned_abs z ≡ 0 → z ≡ pos 0
abs_zero (pos n) e = ap pos e
abs_zero (negsuc n) e = absurd (omega (arith, e))

zero_true : (s : Score) → zero_or_none_b s ≡ true → ZeroOrNone s
unfolding zero_or_none_b
zero_true (Err why) e = tt
zero_true (Ok s) e = abs_zero s (eqb-true _ _ e)

true_zero : (s : Score) → ZeroOrNone s → zero_or_none_b s ≡ true
unfolding zero_or_none_b
true_zero (Err why) e = refl
true_zero (Ok s) e = rw e

fed_true : (fed : Bool) (p : Place) → (fed || unfed_b p) ≡ true → FedOr fed p
unfolding unfed_b
fed_true true p e = tt
fed_true false p e = let h = both _ _ e in (fresh_true p.machine h.0, zero_true p.score h.1)

true_fed : (fed : Bool) (p : Place) → FedOr fed p → (fed || unfed_b p) ≡ true
unfolding unfed_b
true_fed true p f = refl
true_fed false p f = rw (true_fresh p.machine f.0, true_zero p.score f.1)

module _ (n body : ℕ) (closed fed : Bool) where
  pub place_true : (k : ℕ) (p : Place) → place_b n body closed fed k p ≡ true → PlaceFor n body closed fed k p
  unfolding place_b
  place_true k p e =
      let a = both _ _ e in
      let b = both _ _ a.1 in
      let c = both _ _ b.1 in
      let reach = reach_of p.machine n closed in
      record { kind = eqb-true _ _ a.0; sound = sound_true n reach p.machine b.0; scored = scored_true reach body closed fed k p.machine p.score c.0; fed_or = fed_true fed p c.1 }

  pub true_place : (k : ℕ) (p : Place) → PlaceFor n body closed fed k p → place_b n body closed fed k p ≡ true
  unfolding place_b
  true_place k p o =
      let reach = reach_of p.machine n closed in
      rw (eq-eqb _ _ o.kind, true_sound n reach p.machine o.sound, true_scored reach body closed fed k p.machine p.score o.scored, true_fed fed p o.fed_or)

  pub slate_true : (ps : List Place) → slate_b n body closed fed ps ≡ true → SlateFor n body closed fed ps
  unfolding slate_b
  slate_true ps e = let h = both _ _ e in record { most = leb-true _ _ h.0; each = each_true (place_b n body closed fed) (PlaceFor n body closed fed) place_true 0 ps h.1 }

  pub true_slate : (ps : List Place) → SlateFor n body closed fed ps → slate_b n body closed fed ps ≡ true
  unfolding slate_b
  true_slate ps o = rw (le-leb _ _ o.most, true_each (place_b n body closed fed) (PlaceFor n body closed fed) true_place 0 ps o.each)

-- ---- each way through the test of one place
pub no_truth : false ≡ true → ⊥
no_truth e = let q : ◌≡◌ {A = ℕ} 0 1 = cc in omega arith

fresh_then : (n reach : ℕ) (m : Machine) (b : Bool) → fresh_b m ≡ b → (sound_b n reach m && b) ≡ b
fresh_then n reach m true e =
    let h : SoundFor n reach m = rw (sym (fresh_true m e)) at (fresh_sound n reach m) in
    rw (true_sound n reach m h)
fresh_then n reach m false e = and-false (sound_b n reach m)

-- the reach of a machine whose kind takes the closing space, or does not
pub reach_kind : (m : Machine) (space : Bool) (n : ℕ) (closed : Bool) → takes_space m ≡ space → reach_of m n closed ≡ cond (closed && space) (n + 1) n
unfolding reach_of
reach_kind m space n closed e = rw e

-- whether the machine is the kind's
module _ {S : Type 0} (whole : S → Machine) (k : ℕ) (machine : Machine) (r : Option S) where
  pub picked_other : Picked whole k machine r → r ≡ None → eqb (place_number machine) k ≡ false
  picked_other h e = rw e at h

  pub picked_own : (m : S) → Picked whole k machine r → r ≡ Some m → machine ≡ whole m
  picked_own m h e = rw e at h

module _ (n body : ℕ) (closed fed : Bool) (k : ℕ) (p : Place) where
  pub place_other : nat_eq (place_number p.machine) k ≡ false → false ≡ place_b n body closed fed k p
  unfolding place_b
  place_other h = rw h

  module _ (e : place_number p.machine ≡ k) where
    -- without a score: fresh, with a reason and a place that it can have, and nothing else is asked
    place_none : (d : Reason) (at : ℕ) → p.score ≡ no_score d at → (fresh_b p.machine && dropped_b body closed fed k d at) ≡ place_b n body closed fed k p
    unfolding place_b scored_b unfed_b zero_or_none_b
    place_none d at q = rw (eq-eqb _ _ e, q) (by fed (fresh_b p.machine) (dropped_b body closed fed k d at) refl)
      where
        by : (f b c : Bool) → fresh_b p.machine ≡ b → (b && c) ≡ (sound_b n (reach_of p.machine n closed) p.machine && ((b && c) && (f || (b && true))))
        by true true true h = sym (fresh_then n (reach_of p.machine n closed) p.machine true h)
        by false true true h = sym (fresh_then n (reach_of p.machine n closed) p.machine true h)
        by true true false h = sym (and-false (sound_b n (reach_of p.machine n closed) p.machine))
        by false true false h = sym (and-false (sound_b n (reach_of p.machine n closed) p.machine))
        by true false c h = sym (and-false (sound_b n (reach_of p.machine n closed) p.machine))
        by false false c h = sym (and-false (sound_b n (reach_of p.machine n closed) p.machine))

    module _ (s : ℤ) (q : p.score ≡ Ok s) where
      -- not fed: fresh with the score 0, and nothing else is asked
      place_unfed : fed ≡ false → (unsigned_abs s == 0 && fresh_b p.machine) ≡ place_b n body closed fed k p
      unfolding place_b scored_b unfed_b zero_or_none_b
      place_unfed u = rw (eq-eqb _ _ e, q, u) (at (unsigned_abs s == 0) (fresh_b p.machine) refl refl)
        where
          at : (z b : Bool) → (unsigned_abs s == 0) ≡ z → fresh_b p.machine ≡ b → (z && b) ≡ (sound_b n (reach_of p.machine n closed) p.machine && (nat_le (unsigned_abs s) (per_byte * reach_of p.machine n closed) && (b && z)))
          at true true g h =
              let small : leb (unsigned_abs s) (per_byte * reach_of p.machine n closed) ≡ true = le-leb (unsigned_abs s) (per_byte * reach_of p.machine n closed) (rw (eqb-true (unsigned_abs s) 0 g) (omega arith)) in
              rw small (sym (fresh_then n (reach_of p.machine n closed) p.machine true h))
          at true false g h = sym (rw (and-false, and-false))
          at false true g h = sym (rw (and-false, and-false))
          at false false g h = sym (rw (and-false, and-false))

      place_fed : fed ≡ true → (nat_le (unsigned_abs s) (per_byte * reach_of p.machine n closed) && sound_b n (reach_of p.machine n closed) p.machine) ≡ place_b n body closed fed k p
      unfolding place_b scored_b
      place_fed u = rw (eq-eqb _ _ e, q, u, and-true) (and_comm (nat_le (unsigned_abs s) (per_byte * reach_of p.machine n closed)) (sound_b n (reach_of p.machine n closed) p.machine))

  -- as the code goes, by the kind of its machine and the kind's reach: what is asked, and what is answered
  module _ (m : Machine) (e : p.machine ≡ m) (kind : place_number m ≡ k) (reach : ℕ) (far : reach_of m n closed ≡ reach) where
    number : place_number p.machine ≡ k
    number = rw e kind

    answer_if : (b : Bool) (a : Asked) → answer_of (asked_if b a) (sound_b n reach m) (fresh_b m) ≡ (b && answer_of a (sound_b n reach m) (fresh_b m))
    answer_if true a = refl
    answer_if false a = refl

    none_asked : (d : Reason) (at : ℕ) → p.score ≡ no_score d at → answer_of (asked_if (dropped_b body closed fed k d at) asked.Fresh) (sound_b n reach m) (fresh_b m) ≡ place_b n body closed fed k p
    none_asked d at q = answer_if (dropped_b body closed fed k d at) asked.Fresh ∙ (and_comm (dropped_b body closed fed k d at) (fresh_b m) ∙ (ap (λ (x : Machine). fresh_b x && dropped_b body closed fed k d at) (sym e) ∙ place_none number d at q))

    live_asked : (s : ℤ) → p.score ≡ Ok s → (f : Bool) → fed ≡ f → answer_of (cond f (asked_if (nat_le (unsigned_abs s) (per_byte * reach)) asked.Sound) (asked_if (unsigned_abs s == 0) asked.Fresh)) (sound_b n reach m) (fresh_b m) ≡ place_b n body closed fed k p
    live_asked s q true u =
        answer_if (nat_le (unsigned_abs s) (per_byte * reach)) asked.Sound ∙ (ap (λ (x : ℕ). nat_le (unsigned_abs s) (per_byte * x) && sound_b n x m) (sym far) ∙ (ap (λ (x : Machine). nat_le (unsigned_abs s) (per_byte * reach_of x n closed) && sound_b n (reach_of x n closed) x) (sym e) ∙ place_fed number s q u))
    live_asked s q false u = answer_if (unsigned_abs s == 0) asked.Fresh ∙ (ap (λ (x : Machine). (unsigned_abs s == 0) && fresh_b x) (sym e) ∙ place_unfed number s q u)

    place_asked : (c : Score) → p.score ≡ c → answer_of (asked_of reach body closed fed k c) (sound_b n reach m) (fresh_b m) ≡ place_b n body closed fed k p
    place_asked (Err why) q = none_asked why.reason why.at q
    place_asked (Ok s) q = live_asked s q fed refl

    pub way_asked : (a : Asked) → a ≡ asked_of reach body closed fed k p.score → (r : Bool) → r ≡ answer_of a (sound_b n reach m) (fresh_b m) → r ≡ place_b n body closed fed k p
    way_asked a q r i = i ∙ (ap (λ (x : Asked). answer_of x (sound_b n reach m) (fresh_b m)) q ∙ place_asked p.score refl)

pub spaced_most : (n most : ℕ) (closed : Bool) → n ≤ most → spaced_of n closed ≤ most + 1
spaced_most n most true h = omega (arith, h)
spaced_most n most false h = omega (arith, h)

pub spaced_least : (n : ℕ) (closed : Bool) → n ≤ spaced_of n closed
spaced_least n true = omega arith
spaced_least n false = omega arith

-- a place that is within so many bytes and the closing space
pub within_space : (at body : ℕ) → nat_le (at - 1) body ≡ nat_le at (body + 1)
within_space at body = by (nat_le at (body + 1)) refl
  where
    by : (t : Bool) → nat_le at (body + 1) ≡ t → nat_le (at - 1) body ≡ t
    by true e = le-leb (at - 1) body (omega (arith, leb-true at (body + 1) e))
    by false e = lt-leb (at - 1) body (omega (arith, leb-false at (body + 1) e))

-- ---- more bytes, and a close without any
last_two : (a b c : Bool) → (a && (b && c)) ≡ true → (b ≡ true) × (c ≡ true)
last_two a b c e = both b c (both a (b && c) e).1

-- what a place has dropped out for stays what it can have
pub dropped_more : (b c : ℕ) (fed closed : Bool) (k : ℕ) (d : Reason) (at : ℕ) → b ≤ c → dropped_b b false fed k d at ≡ true → dropped_b c closed true k d at ≡ true
unfolding dropped_b
dropped_more b c fed closed k Class255 at l e =
    let h = last_two fed (is_single k) (nat_le at b) e in
    let q : at ≤ spaced_of c closed = omega (arith, leb-true at b h.1, spaced_least c closed) in
    rw (h.0, le-leb at (spaced_of c closed) q)
dropped_more b c fed closed k BadByte at l e = let h = last_two fed (not (is_single k)) (nat_le at b) e in rw (h.0, le-leb at c (omega (arith, leb-true at b h.1)))
dropped_more b c fed closed k BadSecondByte at l e = let h = last_two fed (k == 2 || k == 3) (nat_le at b) e in rw (h.0, le-leb at c (omega (arith, leb-true at b h.1)))
dropped_more b c fed closed k BrokenEscape at l e = let h = last_two fed (k == 1) (nat_le at b) e in rw (h.0, le-leb at c (omega (arith, leb-true at b h.1)))
dropped_more b c fed closed k CutAtClose at l e = absurd (no_truth (last_two fed (not (is_single k)) false e).1)
dropped_more b c fed closed k NotInSlate at l e = e

-- what is not fed has dropped out for one reason, which it can have at any time
pub dropped_unfed : (b c : ℕ) (closed shut fed : Bool) (k : ℕ) (d : Reason) (at : ℕ) → dropped_b b closed false k d at ≡ true → dropped_b c shut fed k d at ≡ true
unfolding dropped_b
dropped_unfed b c closed shut fed k Class255 at e = absurd (no_truth e)
dropped_unfed b c closed shut fed k BadByte at e = absurd (no_truth e)
dropped_unfed b c closed shut fed k BadSecondByte at e = absurd (no_truth e)
dropped_unfed b c closed shut fed k BrokenEscape at e = absurd (no_truth e)
dropped_unfed b c closed shut fed k CutAtClose at e = absurd (no_truth e)
dropped_unfed b c closed shut fed k NotInSlate at e = e

-- what a byte or the end of the stream drops a machine out for, it can have
byte_dropped : (body : ℕ) (closed : Bool) (k : ℕ) (d : Reason) (at : ℕ) → byte_reason k d ≡ true → at ≤ body → dropped_b body closed true k d at ≡ true
unfolding dropped_b
byte_dropped body closed k Class255 at e l = rw (e, le-leb at (spaced_of body closed) (omega (arith, spaced_least body closed)))
byte_dropped body closed k BadByte at e l = rw (e, le-leb at body l)
byte_dropped body closed k BadSecondByte at e l = rw (e, le-leb at body l)
byte_dropped body closed k BrokenEscape at e l = rw (e, le-leb at body l)
byte_dropped body closed k CutAtClose at e l = absurd (no_truth e)
byte_dropped body closed k NotInSlate at e l = absurd (no_truth e)

end_dropped : (body : ℕ) (m : Machine) → dropped_b body true true (place_number m) (end_reason m) (end_at m body) ≡ true
unfolding dropped_b
end_dropped body (Utf8 m) = eq-eqb body body refl
end_dropped body (Iso2022Jp m) = eq-eqb body body refl
end_dropped body (EucKr m) = eq-eqb body body refl
end_dropped body (Big5 m) = eq-eqb body body refl
end_dropped body (Caseless m) = le-leb (body + 1) (body + 1) (omega arith)
end_dropped body (Logical m) = le-leb (body + 1) (body + 1) (omega arith)
end_dropped body (Visual m) = le-leb (body + 1) (body + 1) (omega arith)
end_dropped body (ArabicFrench m) = le-leb (body + 1) (body + 1) (omega arith)
end_dropped body (ShiftJis m) = eq-eqb body body refl

pub scored_more : (a n b c : ℕ) (fed closed : Bool) (k : ℕ) (m : Machine) (s : Score) → a ≤ n → b ≤ c → ScoredFor a b false fed k m s → ScoredFor n c closed true k m s
scored_more a n b c fed closed k m (Err why) h l o = (o.0, dropped_more b c fed closed k why.reason why.at l o.1)
scored_more a n b c fed closed k m (Ok s) h l o = let q : per_byte * a ≤ per_byte * n = mul-le-mul_left per_byte h in omega (arith, o)

pub reach_more : (m : Machine) (n k : ℕ) (closed : Bool) → n ≤ k → n ≤ reach_of m k closed
unfolding reach_of
reach_more m n k true h = pick (takes_space m)
  where
    pick : (t : Bool) → n ≤ cond t (k + 1) k
    pick true = omega arith
    pick false = h
reach_more m n k false h = h

-- a live outcome's score is at most c in size
abbrev pub BoundedOut : ℕ → Outcome Machine → Type 0
BoundedOut c (none d) = Unit {0}
BoundedOut c (live m g) = unsigned_abs g ≤ c

-- what an outcome drops out for, at that byte, place k can have
abbrev pub Drops : ℕ → Bool → ℕ → ℕ → Outcome Machine → Type 0
Drops body closed k at o = WhenNone (λ (d : Reason). dropped_b body closed true k d at ≡ true) o

-- a machine of the same kind with what it can hold and its score, or none
module _ (n body k : ℕ) (closed : Bool) (m : Machine) (kind : place_number m ≡ k) (at : ℕ) where
  -- an outcome's place is in order: its machine is of the kind, holds what it can, and its score is within bounds
  pub placed : (o : Outcome Machine) → Holds (Alike m) o → Holds (SoundFor n (reach_of m n closed)) o → BoundedOut (per_byte * reach_of m n closed) o → Drops body closed k at o → PlaceFor n body closed true k (place_as m at o)
  unfolding place_as
  placed (none d) a s q g =
      let e = fresh_alike m in
      record { kind = alike_place m (fresh_of m) e ∙ kind; sound = fresh_sound n (reach_of (fresh_of m) n closed) m; scored = (sym e, g); fed_or = tt }
  placed (live x r) a s q g =
      let e = alike_reach m x n closed a in
      record { kind = alike_place m x a ∙ kind; sound = rw e s; scored = rw e q; fed_or = tt }

-- ---- a part of a chunk
plus_bounded : (c d : ℕ) (s : ℤ) (o : Outcome Machine) → unsigned_abs s ≤ c → BoundedOut d o → BoundedOut (c + d) (plus s o)
unfolding plus
plus_bounded c d s (none x) h q = tt
plus_bounded c d s (live m g) h q = omega (arith, abs_add s g)

plus_holds : (P : Machine → Type 0) (s : ℤ) (o : Outcome Machine) → Holds P o → Holds P (plus s o)
unfolding plus
plus_holds P s (none d) h = tt
plus_holds P s (live m g) h = h

pub bounded_more : (c d : ℕ) (o : Outcome Machine) → c ≤ d → BoundedOut c o → BoundedOut d o
bounded_more c d (none x) h q = tt
bounded_more c d (live m g) h q = omega (arith, q)

-- what the code knows of a machine's own run over a part, from the score 0
pub record KnownRun (t : Own) (xs : List ℕ) (m : Machine) : Type 0 where
  pub small : BoundedOut (per_byte * length xs) (run (step_of t) (live m (pos 0)) xs)
  pub weighed : Holds (λ (x : Machine). WeighedIn m t.weights) (run (step_of t) (live m (pos 0)) xs)

module _ (t : Own) (xs : List ℕ) (m : Machine) (ran : KnownRun t xs m) where
  sound_at : (n : ℕ) (o : Outcome Machine) → o ≡ run (step_of t) (live m (pos 0)) xs → Holds (λ (x : Machine). WeighedIn m t.weights) o → SoundFor n n m → Holds (SoundFor (n + length xs) (n + length xs)) o
  sound_at n (none d) e w h = tt
  sound_at n (live x g) e w h = rw (sym e) at (run_sound t n xs m w h)

  pub ran_sound : (n : ℕ) → SoundFor n n m → Holds (SoundFor (n + length xs) (n + length xs)) (run (step_of t) (live m (pos 0)) xs)
  ran_sound n h = sound_at n (run (step_of t) (live m (pos 0)) xs) refl ran.weighed h

  -- a byte of the part can be where it drops out
  drops_at : (s : ℤ) (body k : ℕ) → place_number m ≡ k → Drops body false k (byte_at body xs (ends_at (step_of t) (live m s) xs)) (run (step_of t) (live m s) xs)
  drops_at s body k kind =
      none_more (λ (d : Reason) (e : byte_reason (place_number m) d ≡ true). byte_dropped body false k d _ (rw kind at e) (omega arith)) (run (step_of t) (live m s) xs) (run_reason t m s xs)

  -- fed, and the stream goes on
  pub fed_for : (n body k : ℕ) (s : ℤ) → place_number m ≡ k → SoundFor n n m → unsigned_abs s ≤ per_byte * n → PlaceFor (n + length xs) body false true k (place_as m (byte_at body xs (ends_at (step_of t) (live m s) xs)) (run (step_of t) (live m s) xs))
  fed_for n body k s kind sound small =
      let o = run (step_of t) (live m (pos 0)) xs in
      let e = reach_open m (n + length xs) in
      let z = from_zero (step_of t) m s xs in
      let at = byte_at body xs (ends_at (step_of t) (live m s) xs) in
      let q : per_byte * n + per_byte * length xs ≤ per_byte * reach_of m (n + length xs) false = rw e (omega arith) in
      let alike = plus_holds (Alike m) s o (run_alike t m (pos 0) xs) in
      let holds = plus_holds (SoundFor (n + length xs) (n + length xs)) s o (ran_sound n sound) in
      let within = bounded_more (per_byte * n + per_byte * length xs) (per_byte * reach_of m (n + length xs) false) (plus s o) q (plus_bounded (per_byte * n) (per_byte * length xs) s o small ran.small) in
      let why = subst (Drops body false k at) z (drops_at s body k kind) in
      subst (λ (r : Outcome Machine). PlaceFor (n + length xs) body false true k (place_as m at r)) (sym z) (placed (n + length xs) body k false m kind at (plus s o) alike (rw e holds) within why)

-- ---- the end of the stream
ends_bounded : {S : Type 0} (P : S → Type 0) (wrap : S → Machine) (o : Outcome S) → Ends P (pos 0) o → BoundedOut 0 (carried wrap o)
unfolding carried
ends_bounded P wrap (none d) h = tt
ends_bounded P wrap (live m g) h = rw h.1 (omega arith)

module _ (t : Own) where
  -- by what it changes the score at most: by nothing, or by what a byte adds where the closing space is counted
  pub record Room (n : ℕ) (m : Machine) : Type 0 where
    pub more : ℕ
    pub small : BoundedOut (per_byte * more) (close_of t m)
    pub within : n + more ≤ reach_of m n true

  -- a decoder's end changes no score
  pub decoder_end : (n : ℕ) (m : Machine) → is_single (place_number m) ≡ false → SoundFor n n m → BoundedOut 0 (close_of t m)
  unfolding close_of
  decoder_end n (Utf8 m) h o = ends_bounded utf-8.Sound Utf8 (utf-8.close_of m) (utf_8_still m o)
  decoder_end n (Iso2022Jp m) h o = ends_bounded iso2022jp.Sound Iso2022Jp (iso2022jp.close_of m) (iso2022jp_still m o)
  decoder_end n (EucKr m) h o = ends_bounded (λ (x : EucKrRecord). Unit {0}) EucKr (euckr.close_of m) (either (Ends (λ (x : EucKrRecord). Unit {0}) (pos 0)) (m.lead == 0) (λ e. (tt, refl)) (λ e. tt))
  decoder_end n (Big5 m) h o = ends_bounded (λ (x : Big5Record). Unit {0}) Big5 (big5.close_of m) (either (Ends (λ (x : Big5Record). Unit {0}) (pos 0)) (m.lead == 0) (λ e. (tt, refl)) (λ e. tt))
  decoder_end n (Caseless m) h o = absurd (no_truth (sym h))
  decoder_end n (Logical m) h o = absurd (no_truth (sym h))
  decoder_end n (Visual m) h o = absurd (no_truth (sym h))
  decoder_end n (ArabicFrench m) h o = absurd (no_truth (sym h))
  decoder_end n (ShiftJis m) h o = ends_bounded shiftJis.Sound ShiftJis (shiftJis.close_of m) (shift_jis_still m o)

  room : (n : ℕ) (m : Machine) → SoundFor n n m → BoundedOut per_byte (close_of t m) → Room n m
  unfolding reach_of
  room n (Utf8 m) o q = record { more = 0; small = decoder_end n (Utf8 m) refl o; within = omega arith }
  room n (Iso2022Jp m) o q = record { more = 0; small = decoder_end n (Iso2022Jp m) refl o; within = omega arith }
  room n (EucKr m) o q = record { more = 0; small = decoder_end n (EucKr m) refl o; within = omega arith }
  room n (Big5 m) o q = record { more = 0; small = decoder_end n (Big5 m) refl o; within = omega arith }
  room n (Caseless m) o q = record { more = 1; small = q; within = omega arith }
  room n (Logical m) o q = record { more = 1; small = q; within = omega arith }
  room n (Visual m) o q = record { more = 1; small = q; within = omega arith }
  room n (ArabicFrench m) o q = record { more = 1; small = q; within = omega arith }
  room n (ShiftJis m) o q = record { more = 0; small = decoder_end n (ShiftJis m) refl o; within = omega arith }

  reach_sum : (n : ℕ) (m : Machine) (z : ℤ) → unsigned_abs z ≤ per_byte * n → (r : Room n m) → BoundedOut (per_byte * reach_of m n true) (plus z (close_of t m))
  reach_sum n m z h r =
      let d = r.more in
      let e : per_byte * (n + d) ≤ per_byte * reach_of m n true = mul-le-mul_left per_byte r.within in
      bounded_more (per_byte * n + per_byte * d) (per_byte * reach_of m n true) (plus z (close_of t m)) (omega arith) (plus_bounded (per_byte * n) (per_byte * d) z (close_of t m) h r.small)

  -- a place without a score is passed over
  pub end_passed : (n body k : ℕ) (p : Place) → PlaceFor n body false true k p → PlaceFor n body true true k p
  end_passed n body k p o =
      record {
        kind = o.kind;
        sound = sound_more n n n (reach_of p.machine n true) p.machine (omega arith) (reach_more p.machine n n true (omega arith)) (rw (reach_open p.machine n) at o.sound);
        scored = scored_more n (reach_of p.machine n true) body body true true k p.machine p.score (reach_more p.machine n n true (omega arith)) (omega arith) (rw (reach_open p.machine n) at o.scored);
        fed_or = tt;
      }

  drops_end : (body k : ℕ) (m : Machine) (z : ℤ) → place_number m ≡ k → Drops body true k (end_at m body) (plus z (close_of t m))
  drops_end body k m z kind =
      none_plus _ z (close_of t m) (none_more (λ (d : Reason) (e : d ≡ end_reason m). rw (e, sym kind) (end_dropped body m)) (close_of t m) (close_reason t m))

  end_from_lem : (n body k : ℕ) (p : Place) → PlaceFor n body false true k p → BoundedOut per_byte (close_of t p.machine) → (c : Score) → p.score ≡ c → PlaceFor n body true true k (end_from t body p c)
  unfolding end_from
  end_from_lem n body k p o q (Err why) e = end_passed n body k p o
  end_from_lem n body k p o q (Ok z) e =
      let m = p.machine in
      let c = close_of t p.machine in
      let sound : SoundFor n n p.machine = rw (reach_open p.machine n) at o.sound in
      let h : unsigned_abs z ≤ per_byte * n = rw (reach_open p.machine n, e) at o.scored in
      placed n body k true p.machine o.kind (end_at m body) (plus z (close_of t p.machine)) (plus_holds (Alike m) z c (close_alike t m)) (plus_holds (SoundFor n (reach_of m n true)) z c (close_sound t n p.machine sound)) (reach_sum n p.machine z h (room n p.machine sound q)) (drops_end body k m z o.kind)

  pub end_for : (n body k : ℕ) (p : Place) → BoundedOut per_byte (close_of t p.machine) → PlaceFor n body false true k p → PlaceFor n body true true k (end_of t body p)
  end_for n body k p q o = end_from_lem n body k p o q p.score refl
