-- The machine agrees with the Standard's decoder at every byte and at the end, whatever the lead is; and the kind can hold exactly
-- the records of the leads that the decoder can have.
use Rattle.std.specs.Prelude.{◌≡◌, refl, Bool, true, false, cond, ◌&&◌, ◌||◌, List, eqb, get_or}
use Rattle.std.proofs.Math.Path.{sym, ap}
use Rattle.std.proofs.Common.{◌∙◌, inl, inr}
use Prim.Native.Nat.{ℕ}
use Rattle.laws.specs.Tests.{either, through}
use Rattle.laws.specs.Handler.{end_of_queue, byte, Result, vars_of}
use Rattle.laws.specs.Validator.{at_start, on, outcome_by, decoded_by, last_by}
use Rattle.laws.proofs.Validator.{decodes}
use Rattle.laws.specs.declared.Reason.TheVariants.{BadByte, CutAtClose}
use Rattle.laws.specs.Run.{run, ended, alive}
use Rattle.octets.specs.Octets.{ascii, between}
use Rattle.shift_jis.specs.declared.ShiftJis.{ShiftJis}
use Rattle.shift_jis.specs.Standard.{is_lead, is_trail, pointer, is_private_use, is_mapped, first, pointed, next, handler, Reached}
use Rattle.shift_jis.specs.ShiftJis.{holds, fresh, Sound, first_of, trail_of, step_of, close_of}
use Rattle.shift_jis.specs.ShiftJisLaws.{fresh_sound}
use Rattle.shift_jis.specs.Agreement.{record_of, reason_of, outcome_of}
use Rattle.shift_jis.proofs.StandardLaws.{up_to_80, first_lead}

-- ---- tests taken together or one after the other
one_of : {A : Type 0} (p q : Bool) (x y : A) → cond (p || q) x y ≡ cond p x (cond q x y)
one_of true q x y = refl
one_of false q x y = refl

this_and : {A : Type 0} (t p q : Bool) (x y : A) → cond (t && (p || q)) x y ≡ cond t (cond p x (cond q x y)) y
this_and true p q x y = one_of p q x y
this_and false p q x y = refl

-- ---- a byte where lead is 0
first_agrees : (b : ℕ) → first_of b ≡ outcome_of BadByte (first b)
unfolding first_of first outcome_by
first_agrees b = rw (up_to_80 b) (one_of (ascii b || eqb b 0x80) (between 0xA1 0xDF b) _ _ ∙ sym (simp (through (outcome_of BadByte))))

-- ---- a byte after a lead
module _ (index : List ℕ) where
  next_agrees : (lead b : ℕ) → trail_of index lead b ≡ outcome_of BadByte (next index lead b)
  unfolding trail_of next pointed outcome_by
  next_agrees lead b =
      let at = pointer lead b in
      this_and (is_trail b) (is_private_use at) (is_mapped (get_or index at 0)) _ _ ∙ sym (simp (through (outcome_of BadByte)))

  -- The machine's step is the Standard's, at every byte, whatever the lead is.
  pub step_agrees : (lead b : ℕ) → step_of index (record_of lead) b ≡ outcome_of (reason_of lead (byte b)) (handler index lead (byte b))
  unfolding step_of handler
  step_agrees lead b = rw (first_agrees b, next_agrees lead b) (sym (through (outcome_of BadByte) (eqb lead 0) (first b) (next index lead b)))

  -- So is its close at the end of the stream.
  pub close_agrees : (lead : ℕ) → close_of (record_of lead) ≡ outcome_of (reason_of lead end_of_queue) (handler index lead end_of_queue)
  unfolding close_of handler outcome_by
  close_agrees lead = sym (simp (through (outcome_of CutAtClose)))

  -- Over a whole stream, closed, the machine is what the Standard's decoder is up to its first error, with the reason of that error.
  pub stream_agrees : (xs : List ℕ) → ended close_of (run (step_of index) (alive fresh) xs) ≡ outcome_of (last_by (handler index) reason_of 0 xs) (decoded_by (handler index) 0 xs)
  stream_agrees xs = decodes (handler index) 0 record_of reason_of (step_of index) close_of (λ (lead : ℕ) (r : Reached index lead). (λ (b : ℕ). step_agrees lead b, close_agrees lead)) 0 xs at_start

pub fresh_agrees : fresh ≡ record_of 0
fresh_agrees = refl

-- ---- what the kind can hold is what the decoder can reach
abbrev Held : Result ℕ ℕ → Type 0
Held r = Sound (record_of (vars_of r))

held_first : (b : ℕ) → Held (first b)
unfolding first vars_of
held_first b =
    either Held (ascii b || eqb b 0x80) (λ e. fresh_sound)
    (λ e. either Held (between 0xA1 0xDF b) (λ k. fresh_sound)
    (λ k. either Held (is_lead b) (λ l. inr l) (λ l. fresh_sound)))

module _ (index : List ℕ) where
  held_next : (lead b : ℕ) → Held (next index lead b)
  unfolding next pointed vars_of
  held_next lead b =
      either Held (is_trail b)
      (λ t. either Held (is_private_use (pointer lead b)) (λ p. fresh_sound) (λ p. either Held (is_mapped (get_or index (pointer lead b) 0)) (λ e. fresh_sound) (λ e. fresh_sound)))
      (λ t. fresh_sound)

  pub reached_sound : {lead : ℕ} → Reached index lead → Sound (record_of lead)
  unfolding handler
  reached_sound at_start = fresh_sound
  reached_sound (on {d = lead} r b) = either Held (eqb lead 0) (λ e. held_first b) (λ e. held_next lead b)

  -- the record of a lead that the decoder can have
  abbrev pub Stands : ShiftJis → Type 0
  Stands m = (lead : ℕ) × (Reached index lead × (record_of lead ≡ m))

  pub sound_reached : (m : ShiftJis) → Sound m → Stands m
  unfolding handler vars_of
  sound_reached m (inl e) = (0, (at_start, ap holds (sym e)))
  sound_reached m (inr l) = (_, (on at_start m.lead, ap (λ (r : Result ℕ ℕ). record_of (vars_of r)) (first_lead m.lead l)))
