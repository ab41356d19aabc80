-- What holds of the Shift_JIS machine's definitions, and each way through a byte where no lead is pending.
use Rattle.std.specs.Prelude.{◌≡◌, refl, Bool, true, ◌||◌, ◌&&◌, List, ℕ, ◌<◌, ◌≤◌, eqb, ℤ, pos}
use Rattle.std.proofs.Math.Bool.{false, or-true}
use Rattle.std.proofs.Common.{inl, inr, arith, eq-eqb, eqb-true}
use Rattle.std.proofs.Math.Logic.{⊎_elim}
use Rattle.lengths.specs.Lengths.{jis_count}
use Rattle.laws.specs.Answer.{reached, if_fit}
use Rattle.laws.specs.declared.Reason.{Reason}
use Rattle.laws.specs.declared.Reason.TheVariants.{BadByte, CutAtClose}
use Rattle.laws.specs.Run.{Outcome, live, none, run, last_at, alive, WhenNone}
use Rattle.laws.specs.Still.{Ends, run_ends}
use Rattle.laws.specs.Tests.{either}
use Rattle.octets.specs.Octets.{between}
use Rattle.octets.specs.BetweenLaws.{inside, below, above}
use Rattle.shift_jis.specs.Standard.{is_lead, is_trail, pointer}
use Rattle.shift_jis.specs.Ways.{lead_cases}
use Rattle.shift_jis.specs.declared.ShiftJis.{ShiftJis}
use Rattle.entries.specs.Ready.{true_ready}
use Rattle.shift_jis.specs.ShiftJis.{holds, fresh, Sound, sound_b, is_alone, first_of, is_point, trail_of, step_of, close_of, Ready, ran_of, closed_of}

-- ---- each way through a byte where no lead is pending
module _ (b : ℕ) where
  pub first_low : b < 0x81 → alive fresh ≡ first_of b
  unfolding first_of
  first_low h = rw (inside 0x00 0x80 b (omega arith) (omega arith))

  pub first_katakana : between 0xA1 0xDF b ≡ true → alive fresh ≡ first_of b
  unfolding first_of
  first_katakana k = rw (k, or-true)

  -- a lead is no code point by itself
  pub first_lead : is_lead b ≡ true → alive (holds b) ≡ first_of b
  unfolding first_of
  first_lead l = ⊎_elim (λ h. rest (omega arith) (below 0xA1 0xDF b (omega arith))) (λ h. rest (omega arith) (above 0xA1 0xDF b (omega arith))) (lead_cases b l)
    where
      rest : 0x81 ≤ b → between 0xA1 0xDF b ≡ false → alive (holds b) ≡ first_of b
      rest h k = rw (above 0x00 0x80 b h, k, l)

  pub first_rest : 0x81 ≤ b → is_lead b ≡ false → between 0xA1 0xDF b ≡ false → none BadByte ≡ first_of b
  unfolding first_of
  first_rest h l k = rw (above 0x00 0x80 b h, k, l)

-- ---- what the kind can hold: the test decides it, both ways
pub true_sound : (m : ShiftJis) → Sound m → sound_b m ≡ true
true_sound m (inl e) = rw (eq-eqb _ _ e)
true_sound m (inr l) = rw (l, or-true)

pub sound_true : (m : ShiftJis) → sound_b m ≡ true → Sound m
sound_true m h = at (eqb m.lead 0) refl h
  where
    at : (t : Bool) → eqb m.lead 0 ≡ t → (t || is_lead m.lead) ≡ true → Sound m
    at true e l = inl (eqb-true _ _ e)
    at false e l = inr l

pub fresh_sound : Sound fresh
fresh_sound = inl refl

-- ---- a step keeps it, and changes no score
abbrev Kept : Outcome ShiftJis → Type 0
Kept o = Ends Sound (pos 0) o

first_keeps : (b : ℕ) → Kept (first_of b)
unfolding first_of
first_keeps b = either Kept (is_alone b) (λ e. (fresh_sound, refl)) (λ e. either Kept (is_lead b) (λ l. (inr l, refl)) (λ l. tt))

module _ (index : List ℕ) where
  trail_keeps : (lead b : ℕ) → Kept (trail_of index lead b)
  unfolding trail_of
  trail_keeps lead b = either Kept (is_trail b && is_point index (pointer lead b)) (λ e. (fresh_sound, refl)) (λ e. tt)

  keeps : (m : ShiftJis) (b : ℕ) → Kept (step_of index m b)
  unfolding step_of
  keeps m b = either Kept (eqb m.lead 0) (λ e. first_keeps b) (λ e. trail_keeps m.lead b)

  pub step_keeps : (m : ShiftJis) (b : ℕ) → Sound m → Ends Sound (pos 0) (step_of index m b)
  step_keeps m b h = keeps m b

  pub step_live : (m n : ShiftJis) (b : ℕ) (s : ℤ) → step_of index m b ≡ live n s → Sound n × (s ≡ pos 0)
  step_live m n b s e = rw e at (keeps m b)

  -- A stretch keeps what the kind can hold, and ends with the score that it began with, or none.
  pub run_keeps : (m : ShiftJis) (s : ℤ) (xs : List ℕ) → Sound m → Ends Sound s (run (step_of index) (live m s) xs)
  run_keeps m s xs h = run_ends (step_of index) Sound step_keeps s (live m s) xs (h, refl)

-- ---- why it drops out: a bad byte, or a lead that is cut at the end
abbrev Only : Reason → Outcome ShiftJis → Type 0
Only why o = WhenNone (λ d. d ≡ why) o

first_only : (b : ℕ) → Only BadByte (first_of b)
unfolding first_of
first_only b = either (Only BadByte) (is_alone b) (λ e. tt) (λ e. either (Only BadByte) (is_lead b) (λ l. tt) (λ l. refl))

module _ (index : List ℕ) (m : ShiftJis) (b : ℕ) where
  step_only : Only BadByte (step_of index m b)
  unfolding step_of trail_of
  step_only =
      either (Only BadByte) (eqb m.lead 0) (λ e. first_only b)
      (λ e. either (Only BadByte) (is_trail b && is_point index (pointer m.lead b)) (λ p. tt) (λ p. refl))

  pub step_reason : (d : Reason) → step_of index m b ≡ none d → d ≡ BadByte
  step_reason d e = rw e at step_only

close_only : (m : ShiftJis) → Only CutAtClose (close_of m)
unfolding close_of
close_only m = either (Only CutAtClose) (eqb m.lead 0) (λ e. tt) (λ e. refl)

pub close_reason : (m : ShiftJis) (d : Reason) → close_of m ≡ none d → d ≡ CutAtClose
close_reason m d e = rw e at (close_only m)

-- ---- what a call gives
module _ (index : List ℕ) (m : ShiftJis) (xs : List ℕ) where
  -- a caller that tested
  pub ran_ready : Ready index m xs → ran_of index m xs ≡ reached (last_at (step_of index) (alive m) xs) (run (step_of index) (alive m) xs)
  unfolding ran_of
  ran_ready r = if_fit _ _ (true_ready (sound_b m) jis_count index xs (true_sound m) r)

pub closed_ready : (m : ShiftJis) → Sound m → closed_of m ≡ reached 0 (close_of m)
unfolding closed_of
closed_ready m h = if_fit _ _ (true_sound m h)
