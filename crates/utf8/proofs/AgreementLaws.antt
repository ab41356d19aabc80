-- The machine agrees with the Standard's decoder at every byte and at the end, for all variables that the decoder can have.
use Rattle.std.specs.Prelude.{◌≡◌, Bool, cond, List, [], ◌∷◌, ℕ, zero, suc, ◌+◌, ◌-◌, ◌<◌, ◌≤◌, eqb}
use Rattle.std.proofs.Math.Path.{refl}
use Rattle.std.proofs.Common.{sym}
use Rattle.std.proofs.Math.Bool.{true, false}
use native.Mathlib.Omega.{arith}
use borrow.Author.Tests.{ne_eqb, eqb-true, eqb-false}
use Rattle.laws.specs.Tests.{either, through}
use Rattle.laws.specs.Handler.{end_of_queue, byte, continue, code_point, error, vars_of}
use Rattle.laws.specs.Validator.{Verdict, at_start, on, outcome_by, decoded_by, last_by}
use Rattle.laws.proofs.Validator.{decodes}
use Rattle.laws.specs.declared.Reason.TheVariants.{BadByte, CutAtClose}
use Rattle.laws.specs.Run.{none, run, ended, alive}
use Rattle.octets.specs.Octets.{between}
use Rattle.utf8.specs.declared.Utf8.{Utf8}
use Rattle.utf8.specs.Standard.{Decoder, variables, initial, handler, Reached}
use Rattle.utf8.specs.Utf8.{needs, fresh, Sound, plain, after_E0, after_ED, after_F0, after_F4, lead_of, trail_of, step_of, close_of}
use Rattle.utf8.specs.Utf8Laws.{cut_range, most_needed, fresh_sound}
use Rattle.utf8.specs.Agreement.{record_of, reason_of, outcome_of}

-- ---- what the variables can be
data Held : Decoder → Type 0 where
  idle : Held initial
  under_way : {seen needed lower upper : ℕ} → seen < needed → Sound (needs (needed - seen) lower upper) → Held (variables seen needed lower upper)

abbrev HeldAfter : Verdict Decoder → Type 0
HeldAfter r = Held (vars_of r)

held_first : (b : ℕ) → HeldAfter (handler initial (byte b))
unfolding handler vars_of
held_first b =
    either HeldAfter (between 0x00 0x7F b) (λ e. idle)
    (λ e. either HeldAfter (between 0xC2 0xDF b) (λ e. under_way {needed = 1} (omega arith) (plain (omega arith)))
    (λ e. either HeldAfter (between 0xE0 0xEF b) (λ e. under_way {needed = 2} (omega arith) (cut_range 2 0xA0 0x9F 0xE0 0xED b (omega arith) (omega arith) after_E0 after_ED))
    (λ e. either HeldAfter (between 0xF0 0xF4 b) (λ e. under_way {needed = 3} (omega arith) (cut_range 3 0x90 0x8F 0xF0 0xF4 b (omega arith) (omega arith) after_F0 after_F4)) (λ e. idle))))

module _ (seen needed lower upper : ℕ) (more : seen < needed) (few : needed - seen ≤ 3) (b : ℕ) where
  -- a byte that is needed: whether it is within the boundaries, and whether it is the last
  abbrev next_as : Bool → Bool → Verdict Decoder
  next_as t u = cond t (cond u (code_point tt initial) (continue (variables (seen + 1) needed 0x80 0xBF))) (error (b ∷ []) initial)

  goes_on : handler (variables seen needed lower upper) (byte b) ≡ next_as (between lower upper b) (eqb (seen + 1) needed)
  unfolding handler
  goes_on = rw (ne_eqb needed 0 (λ (e : needed ≡ 0). omega arith))

  held_next : (t u : Bool) → eqb (seen + 1) needed ≡ u → HeldAfter (next_as t u)
  unfolding vars_of
  held_next true true e = idle
  held_next true false e = let n = eqb-false (seen + 1) needed e in under_way {seen = seen + 1} {needed = needed} (omega arith) (plain {n = needed - (seen + 1)} (omega arith))
  held_next false u e = idle

  agrees_next : (t u : Bool) → eqb (seen + 1) needed ≡ u → cond t (alive (needs (needed - seen - 1) 0x80 0xBF)) (none BadByte) ≡ outcome_of BadByte (next_as t u)
  unfolding outcome_by
  agrees_next true true e = let n : needed - seen - 1 ≡ 0 = omega (arith, eqb-true (seen + 1) needed e) in rw n
  agrees_next true false e = let n : needed - seen - 1 ≡ needed - (seen + 1) = omega arith in rw n
  agrees_next false u e = refl

held_on : (d : Decoder) (b : ℕ) → Held d → HeldAfter (handler d (byte b))
held_on d b idle = held_first b
held_on d b (under_way {seen} {needed} {lower} {upper} h s) =
    rw (goes_on seen needed lower upper h (most_needed _ s) b) (held_next seen needed lower upper h (most_needed _ s) b (between lower upper b) (eqb (seen + 1) needed) refl)

held : {d : Decoder} → Reached d → Held d
held at_start = idle
held (on {d} r b) = held_on d b (held r)

-- ---- a byte
agrees_first : (b : ℕ) → lead_of b ≡ outcome_of BadByte (handler initial (byte b))
unfolding lead_of handler outcome_by
agrees_first b = sym (simp (through (outcome_of BadByte)))

agrees : (d : Decoder) (b : ℕ) → Held d → step_of (record_of d) b ≡ outcome_of BadByte (handler d (byte b))
unfolding step_of trail_of
agrees d b idle = agrees_first b
agrees d b (under_way {seen} {needed} {lower} {upper} h s) =
    rw (ne_eqb (needed - seen) 0 (λ (e : needed - seen ≡ 0). omega arith), goes_on seen needed lower upper h (most_needed _ s) b) (agrees_next seen needed lower upper h (most_needed _ s) b (between lower upper b) (eqb (seen + 1) needed) refl)

-- The machine's step is the Standard's, at every byte and for all variables that the decoder can have.
pub step_agrees : (d : Decoder) (b : ℕ) → Reached d → step_of (record_of d) b ≡ outcome_of (reason_of d (byte b)) (handler d (byte b))
step_agrees d b r = agrees d b (held r)

-- ---- the end
closes : (d : Decoder) → Held d → close_of (record_of d) ≡ outcome_of CutAtClose (handler d end_of_queue)
unfolding close_of handler outcome_by
closes d idle = refl
closes d (under_way {seen} {needed} h s) =
    rw (ne_eqb (needed - seen) 0 (λ (e : needed - seen ≡ 0). omega arith), ne_eqb needed 0 (λ (e : needed ≡ 0). omega arith))

-- So is its close at the end of the stream.
pub close_agrees : (d : Decoder) → Reached d → close_of (record_of d) ≡ outcome_of (reason_of d end_of_queue) (handler d end_of_queue)
close_agrees d r = closes d (held r)

pub fresh_agrees : fresh ≡ record_of initial
fresh_agrees = refl

-- Over a whole stream, closed, the machine is what the Standard's decoder is up to its first error, with the reason of that error.
pub stream_agrees : (xs : List ℕ) → ended close_of (run step_of (alive fresh) xs) ≡ outcome_of (last_by handler reason_of initial xs) (decoded_by handler initial xs)
stream_agrees xs = decodes handler initial record_of reason_of step_of close_of (λ (d : Decoder) (r : Reached d). (λ (b : ℕ). step_agrees d b r, close_agrees d r)) initial xs at_start

-- ---- what the kind can hold is what the decoder can reach
held_sound : {d : Decoder} → Held d → Sound (record_of d)
held_sound idle = fresh_sound
held_sound (under_way h s) = s

pub reached_sound : {d : Decoder} → Reached d → Sound (record_of d)
reached_sound r = held_sound (held r)

-- the record of some variables that the decoder can have
abbrev pub Stands : Utf8 → Type 0
Stands m = (d : Decoder) × (Reached d × (record_of d ≡ m))

plain_reached : (n : ℕ) → n ≤ 3 → Stands (needs n 0x80 0xBF)
unfolding handler vars_of
plain_reached zero h = (_, (at_start, refl))
plain_reached (suc zero) h = (_, (on at_start 0xC2, refl))
plain_reached (suc (suc zero)) h = (_, (on at_start 0xE1, refl))
plain_reached (suc (suc (suc zero))) h = (_, (on at_start 0xF1, refl))
plain_reached (suc (suc (suc (suc n)))) h = absurd (omega (arith, h))

pub sound_reached : (m : Utf8) → Sound m → Stands m
unfolding handler vars_of
sound_reached m (plain {n} h) = plain_reached n h
sound_reached m after_E0 = (_, (on at_start 0xE0, refl))
sound_reached m after_ED = (_, (on at_start 0xED, refl))
sound_reached m after_F0 = (_, (on at_start 0xF0, refl))
sound_reached m after_F4 = (_, (on at_start 0xF4, refl))
