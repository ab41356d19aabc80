-- What holds of the UTF-8 machine's definitions.
use Rattle.std.specs.Prelude.{◌≡◌, Bool, cond, ◌||◌, List, ℕ, ◌-◌, ◌<◌, ◌≤◌, eqb, leb, ℤ, pos, length}
use Rattle.std.proofs.Math.Path.{refl, sym, subst}
use Rattle.std.proofs.Common.{◌∙◌, arith}
use Rattle.std.proofs.Math.Bool.{true, false}
use borrow.Author.Tests.{eq-eqb, ne_eqb, eqb-true, le-leb, leb-true}
use Rattle.laws.specs.Limit.{limit}
use Rattle.laws.specs.Answer.{reached, if_fit}
use Rattle.laws.specs.declared.Reason.{Reason}
use Rattle.laws.specs.declared.Reason.TheVariants.{BadByte, CutAtClose}
use Rattle.laws.specs.Run.{Outcome, none, live, run, last_at, alive}
use Rattle.laws.specs.Tests.{both, either}
use Rattle.laws.specs.Still.{Lives, Ends, none_live, run_ends}
use Rattle.octets.specs.Octets.{between}
use Rattle.octets.specs.BetweenLaws.{inside, above}
use Rattle.utf8.specs.declared.Utf8.{Utf8}
use Rattle.utf8.specs.Utf8.{needs, fresh, Sound, plain, after_E0, after_ED, after_F0, after_F4, next_in, next_cut, sound_b, lead_of, trail_of, step_of, close_of, Ready, ready_b, ran_of, closed_of}

-- ---- a byte that begins a sequence
module _ (b : ℕ) where
  pub lead_ascii : b < 0x80 → alive fresh ≡ lead_of b
  unfolding lead_of
  lead_ascii h = rw (inside 0x00 0x7F b (omega arith) (omega arith))

  pub lead_late : 0xF5 ≤ b → none BadByte ≡ lead_of b
  unfolding lead_of
  lead_late p = rw (above 0x00 0x7F b (omega arith), above 0xC2 0xDF b (omega arith), above 0xE0 0xEF b (omega arith), above 0xF0 0xF4 b (omega arith))

-- ---- a step
module _ (m : Utf8) (b : ℕ) where
  pub step_lead : m.need ≡ 0 → lead_of b ≡ step_of m b
  unfolding step_of
  step_lead e = rw (eq-eqb _ _ e)

  step_trail : (m.need ≡ 0 → ⊥) → step_of m b ≡ trail_of m b
  unfolding step_of
  step_trail e = rw (ne_eqb _ _ e)

  module _ (e : m.need ≡ 0 → ⊥) where
    pub step_outside : between m.lo m.hi b ≡ false → none BadByte ≡ step_of m b
    unfolding trail_of
    step_outside h = sym (step_trail e ∙ rw h)

    pub step_within : m.lo ≤ b → b ≤ m.hi → alive (needs (m.need - 1) 0x80 0xBF) ≡ step_of m b
    unfolding trail_of
    step_within p q = sym (step_trail e ∙ rw (inside m.lo m.hi b p q))

-- ---- what the kind can hold: the test decides it, both ways
next_is : (m : Utf8) (lo hi : ℕ) → next_in m lo hi ≡ true → needs m.need lo hi ≡ m
unfolding next_in
next_is m lo hi e =
    let q = both (eqb m.lo lo) (eqb m.hi hi) e in
    rw (← eqb-true m.lo lo q.0, ← eqb-true m.hi hi q.1)

module _ (m : Utf8) where
  cut_sound : (n lo hi : ℕ) → m.need ≡ n → Sound (needs n lo 0xBF) → Sound (needs n 0x80 hi) → next_cut m lo hi ≡ true → Sound m
  unfolding next_cut
  cut_sound n lo hi e p q h = cut_at (next_in m lo 0xBF) refl h
    where
      cut_at : (t : Bool) → next_in m lo 0xBF ≡ t → (t || next_in m 0x80 hi) ≡ true → Sound m
      cut_at true f g = subst Sound (next_is m lo 0xBF f) (rw e p)
      cut_at false f g = subst Sound (next_is m 0x80 hi g) (rw e q)

  sound_at : (t u v : Bool) → next_in m 0x80 0xBF ≡ t → eqb m.need 2 ≡ u → eqb m.need 3 ≡ v → cond t (leb m.need 3) (cond u (next_cut m 0xA0 0x9F) (cond v (next_cut m 0x90 0x8F) false)) ≡ true → Sound m
  sound_at true u v p q r h = subst Sound (next_is m 0x80 0xBF p) (plain (leb-true _ _ h))
  sound_at false true v p q r h = cut_sound 2 0xA0 0x9F (eqb-true _ _ q) after_E0 after_ED h
  sound_at false false true p q r h = cut_sound 3 0x90 0x8F (eqb-true _ _ r) after_F0 after_F4 h
  sound_at false false false p q r h = let z : ◌≡◌ {A = ℕ} 0 1 = cc in absurd (omega arith)

  pub sound_true : sound_b m ≡ true → Sound m
  unfolding sound_b
  sound_true h = sound_at (next_in m 0x80 0xBF) (eqb m.need 2) (eqb m.need 3) refl refl refl h

pub true_sound : (m : Utf8) → Sound m → sound_b m ≡ true
unfolding sound_b next_in next_cut
true_sound m (plain {n} h) = le-leb n 3 h
true_sound m after_E0 = refl
true_sound m after_ED = refl
true_sound m after_F0 = refl
true_sound m after_F4 = refl

-- ---- a step keeps it, and changes no score
-- after a lead that cuts the next byte's range at one end, or at none
pub cut_range : (n lo hi k l b : ℕ) → k < l → n ≤ 3 → Sound (needs n lo 0xBF) → Sound (needs n 0x80 hi) → Sound (needs n (cond (eqb b k) lo 0x80) (cond (eqb b l) hi 0xBF))
cut_range n lo hi k l b apart h p q = at (eqb b k) (eqb b l) refl refl
  where
    at : (t u : Bool) → eqb b k ≡ t → eqb b l ≡ u → Sound (needs n (cond t lo 0x80) (cond u hi 0xBF))
    at true true e f = absurd (omega (arith, eqb-true b k e, eqb-true b l f))
    at true false e f = p
    at false true e f = q
    at false false e f = plain h

pub fresh_sound : Sound fresh
fresh_sound = plain {n = 0} (omega arith)

abbrev Kept : Outcome Utf8 → Type 0
Kept o = Ends Sound (pos 0) o

lead_sound : (b : ℕ) → Kept (lead_of b)
unfolding lead_of
lead_sound b =
    either Kept (between 0x00 0x7F b) (λ e. (fresh_sound, refl))
    (λ e. either Kept (between 0xC2 0xDF b) (λ e. (plain {n = 1} (omega arith), refl))
    (λ e. either Kept (between 0xE0 0xEF b) (λ e. (cut_range 2 0xA0 0x9F 0xE0 0xED b (omega arith) (omega arith) after_E0 after_ED, refl))
    (λ e. either Kept (between 0xF0 0xF4 b) (λ e. (cut_range 3 0x90 0x8F 0xF0 0xF4 b (omega arith) (omega arith) after_F0 after_F4, refl)) (λ e. tt))))

trail_sound : (n lo hi b : ℕ) → n ≤ 4 → Kept (trail_of (needs n lo hi) b)
unfolding trail_of
trail_sound n lo hi b h = either Kept (between lo hi b) (λ e. (plain {n = n - 1} (omega arith), refl)) (λ e. tt)

pub most_needed : (m : Utf8) → Sound m → m.need ≤ 3
most_needed m (plain h) = h
most_needed m after_E0 = omega arith
most_needed m after_ED = omega arith
most_needed m after_F0 = omega arith
most_needed m after_F4 = omega arith

pub step_keeps : (m : Utf8) (b : ℕ) → Sound m → Ends Sound (pos 0) (step_of m b)
unfolding step_of
step_keeps m b s = either Kept (eqb m.need 0) (λ e. lead_sound b) (λ e. trail_sound m.need m.lo m.hi b (omega (arith, most_needed m s)))

pub step_live : (m n : Utf8) (b : ℕ) (s : ℤ) → Sound m → step_of m b ≡ live n s → Sound n × (s ≡ pos 0)
step_live m n b s h e = rw e at (step_keeps m b h)

-- A stretch keeps what the kind can hold, and ends with the score that it began with, or none.
pub run_keeps : (m : Utf8) (s : ℤ) (xs : List ℕ) → Sound m → Ends Sound s (run step_of (live m s) xs)
run_keeps m s xs h = run_ends step_of Sound step_keeps s (live m s) xs (h, refl)

-- ---- the close: live exactly if nothing is needed
close_at : (m : Utf8) (t : Bool) → eqb m.need 0 ≡ t → Lives (cond t (alive m) (none CutAtClose)) → m.need ≡ 0
close_at m true e l = eqb-true _ _ e
close_at m false e l = absurd (none_live l.1.1)

pub close_whole : (m : Utf8) → Lives (close_of m) → m.need ≡ 0
unfolding close_of
close_whole m l = close_at m (eqb m.need 0) refl l

-- ---- why it drops out
abbrev Only : Reason → Outcome Utf8 → Type 0
Only why (none d) = d ≡ why
Only why (live m s) = Unit {0}

lead_only : (b : ℕ) → Only BadByte (lead_of b)
unfolding lead_of
lead_only b =
    either (Only BadByte) (between 0x00 0x7F b) (λ e. tt)
    (λ e. either (Only BadByte) (between 0xC2 0xDF b) (λ e. tt)
    (λ e. either (Only BadByte) (between 0xE0 0xEF b) (λ e. tt)
    (λ e. either (Only BadByte) (between 0xF0 0xF4 b) (λ e. tt) (λ e. refl))))

step_only : (m : Utf8) (b : ℕ) → Only BadByte (step_of m b)
unfolding step_of trail_of
step_only m b =
    either (Only BadByte) (eqb m.need 0) (λ e. lead_only b)
    (λ e. either (Only BadByte) (between m.lo m.hi b) (λ e. tt) (λ e. refl))

pub step_reason : (m : Utf8) (b : ℕ) (d : Reason) → step_of m b ≡ none d → d ≡ BadByte
step_reason m b d e = rw e at (step_only m b)

close_only : (m : Utf8) → Only CutAtClose (close_of m)
unfolding close_of
close_only m = either (Only CutAtClose) (eqb m.need 0) (λ e. tt) (λ e. refl)

pub close_reason : (m : Utf8) (d : Reason) → close_of m ≡ none d → d ≡ CutAtClose
close_reason m d e = rw e at (close_only m)

-- ---- what a call gives
module _ (m : Utf8) (xs : List ℕ) where
  pub true_ready : Ready m xs → ready_b m xs ≡ true
  unfolding ready_b
  true_ready r = rw (true_sound m r.sound, le-leb _ _ r.short)

  pub ready_true : ready_b m xs ≡ true → Ready m xs
  unfolding ready_b
  ready_true e = let q = both (sound_b m) (leb (length xs) limit) e in record { sound = sound_true m q.0; short = leb-true _ _ q.1 }

  -- a caller that tested
  pub ran_ready : Ready m xs → ran_of m xs ≡ reached (last_at step_of (alive m) xs) (run step_of (alive m) xs)
  unfolding ran_of
  ran_ready r = if_fit _ _ (true_ready r)

pub closed_ready : (m : Utf8) → Sound m → closed_of m ≡ reached 0 (close_of m)
unfolding closed_of
closed_ready m h = if_fit _ _ (true_sound m h)
