-- The machine agrees with the Standard's decoder at every byte and at the end, whatever the decoder's variables are; and the
-- record of variables that the decoder can have is one that the kind can hold.
use Rattle.std.specs.Prelude.{◌≡◌, Bool, cond, List, [], ◌∷◌, ◌⊎◌, ℕ, ◌≤◌, eqb, Option, Some, None}
use Rattle.std.proofs.Math.Path.{refl, sym, ap}
use Rattle.std.proofs.Common.{◌∙◌, arith, eqb-true}
use Rattle.std.proofs.Math.Bool.{true, false}
use Rattle.laws.specs.Tests.{either, through}
use Rattle.laws.specs.Handler.{end_of_queue, byte, vars_of}
use Rattle.laws.specs.Validator.{Verdict, at_start, on, outcome_by, decoded_by, last_by}
use Rattle.laws.proofs.Validator.{decodes}
use Rattle.laws.specs.declared.Reason.TheVariants.{BadByte, BrokenEscape, CutAtClose}
use Rattle.laws.specs.Run.{none, run, ended, alive}
use Rattle.octets.specs.Octets.{between}
use Rattle.octets.specs.BetweenLaws.{below, between_low, between_high}
use Rattle.iso2022jp.specs.declared.DecoderState.TheVariants.{LeadByte}
use Rattle.iso2022jp.specs.declared.OutputState.{OutputState as CodeOutput}
use Rattle.iso2022jp.specs.Standard.{DecoderState, ascii, roman, katakana, lead_byte, trail_byte, escape_start, escape, OutputState, out_ascii, out_roman, out_katakana, out_lead_byte, as_state, Decoder, variables, initial, is_text_lem, pointer, Set, null, state, set_by, after_set, on_byte, on_end, handler, Reached}
use Rattle.iso2022jp.specs.Iso2022Jp.{holds, fresh, Sound, leads_escape, indexed_by, is_text, ascii_of, ranged_of, pair_at, trail_of, escape_start_of, designated, state_of, escaped_to, step_in, step_of, close_in, close_of}
use Rattle.iso2022jp.specs.Iso2022JpLaws.{escape_lead}
use Rattle.iso2022jp.specs.Agreement.{output_state, record_of, reason_in, reason_of, outcome_of}

-- ---- an escape
abbrev designation : Set → Option CodeOutput
designation null = None
designation (state o) = Some (output_state o)

sets : (lead b : ℕ) → designated lead b ≡ designation (set_by lead b)
unfolding designated set_by
sets lead b = sym (simp (through designation))

-- ---- a byte
module _ (index : List ℕ) (out : OutputState) (lead : ℕ) (output : Bool) (b : ℕ) where
  abbrev Agrees : DecoderState → Type 0
  Agrees st = step_of index (record_of (variables st out lead output)) b ≡ outcome_of (reason_in st) (handler (indexed_by index) (variables st out lead output) (byte b))

  in_ascii_agrees : Agrees ascii
  unfolding step_in ascii_of is_text handler on_byte outcome_by
  in_ascii_agrees = sym (simp (through (outcome_of BadByte)))

  in_roman_agrees : Agrees roman
  unfolding step_in ascii_of is_text handler on_byte outcome_by
  in_roman_agrees = sym (simp (through (outcome_of BadByte)))

  in_katakana_agrees : Agrees katakana
  unfolding step_in ranged_of handler on_byte outcome_by
  in_katakana_agrees = sym (simp (through (outcome_of BadByte)))

  in_lead_byte_agrees : Agrees lead_byte
  unfolding step_in ranged_of handler on_byte outcome_by
  in_lead_byte_agrees = sym (simp (through (outcome_of BadByte)))

  in_escape_start_agrees : Agrees escape_start
  unfolding step_in escape_start_of handler on_byte outcome_by
  in_escape_start_agrees = sym (simp (through (outcome_of BrokenEscape)))

  -- where the byte can be a trail, the two pointers are one
  same_pointer : (t : Bool) → between 0x21 0x7E b ≡ t → cond t (cond (indexed_by index (pair_at lead b)) (alive (holds LeadByte (output_state out) 0 output)) (none BadByte)) (none BadByte) ≡ cond t (cond (indexed_by index (pointer lead b)) (alive (holds LeadByte (output_state out) 0 output)) (none BadByte)) (none BadByte)
  same_pointer true e = let n : pair_at lead b ≡ pointer lead b = omega (arith, between_low 0x21 0x7E b e) in rw n
  same_pointer false e = refl

  trail_at : (t : Bool) → eqb b 0x1B ≡ t → cond (between 0x21 0x7E b) (cond (indexed_by index (pair_at lead b)) (alive (holds LeadByte (output_state out) 0 output)) (none BadByte)) (none BadByte) ≡ cond t (none BadByte) (cond (between 0x21 0x7E b) (cond (indexed_by index (pointer lead b)) (alive (holds LeadByte (output_state out) 0 output)) (none BadByte)) (none BadByte))
  trail_at true e = rw (below 0x21 0x7E b (omega (arith, eqb-true b 0x1B e)))
  trail_at false e = same_pointer (between 0x21 0x7E b) refl

  in_trail_byte_agrees : Agrees trail_byte
  unfolding step_in trail_of handler on_byte outcome_by
  in_trail_byte_agrees = trail_at (eqb b 0x1B) refl ∙ sym (simp (through (outcome_of BadByte)))

  escaped : (s : Set) (t : Bool) → escaped_to t (designation s) ≡ outcome_of BrokenEscape (after_set (lead ∷ b ∷ []) (variables escape out lead t) s)
  unfolding escaped_to state_of after_set outcome_by
  escaped null t = refl
  escaped (state out_ascii) true = refl
  escaped (state out_ascii) false = refl
  escaped (state out_roman) true = refl
  escaped (state out_roman) false = refl
  escaped (state out_katakana) true = refl
  escaped (state out_katakana) false = refl
  escaped (state out_lead_byte) true = refl
  escaped (state out_lead_byte) false = refl

  in_escape_agrees : Agrees escape
  unfolding step_in handler on_byte
  in_escape_agrees = ap (escaped_to output) (sets lead b) ∙ escaped (set_by lead b) output

  agrees : (st : DecoderState) → Agrees st
  agrees ascii = in_ascii_agrees
  agrees roman = in_roman_agrees
  agrees katakana = in_katakana_agrees
  agrees lead_byte = in_lead_byte_agrees
  agrees trail_byte = in_trail_byte_agrees
  agrees escape_start = in_escape_start_agrees
  agrees escape = in_escape_agrees

-- The machine's step is the Standard's, at every byte, whatever the variables are.
pub step_agrees : (index : List ℕ) (d : Decoder) (b : ℕ) → step_of index (record_of d) b ≡ outcome_of (reason_of d (byte b)) (handler (indexed_by index) d (byte b))
step_agrees index d b = agrees index d.output_state_lem d.lead d.output b d.decoder_state_lem

-- ---- the end
closes : (st : DecoderState) (out : OutputState) (lead : ℕ) (output : Bool) → close_of (record_of (variables st out lead output)) ≡ outcome_of CutAtClose (on_end st (variables st out lead output))
unfolding close_in on_end after_set outcome_by
closes ascii out lead output = refl
closes roman out lead output = refl
closes katakana out lead output = refl
closes lead_byte out lead output = refl
closes trail_byte out lead output = refl
closes escape_start out lead output = refl
closes escape out lead output = refl

-- So is its close at the end of the stream.
pub close_agrees : (index : List ℕ) (d : Decoder) → close_of (record_of d) ≡ outcome_of (reason_of d end_of_queue) (handler (indexed_by index) d end_of_queue)
unfolding handler
close_agrees index d = closes d.decoder_state_lem d.output_state_lem d.lead d.output

pub fresh_agrees : fresh ≡ record_of initial
fresh_agrees = refl

-- Over a whole stream, closed, the machine is what the Standard's decoder is up to its first error, with the reason of that error.
pub stream_agrees : (index : List ℕ) (xs : List ℕ) → ended close_of (run (step_of index) (alive fresh) xs) ≡ outcome_of (last_by (handler (indexed_by index)) reason_of initial xs) (decoded_by (handler (indexed_by index)) initial xs)
stream_agrees index xs =
    decodes (handler (indexed_by index)) initial record_of reason_of (step_of index) close_of (λ (d : Decoder) (r : Reached (indexed_by index) d). (λ (b : ℕ). step_agrees index d b, close_agrees index d)) initial xs at_start

-- ---- what the decoder can reach, the kind can hold
abbrev HeldLead : DecoderState → ℕ → Type 0
HeldLead ascii lead = Unit {0}
HeldLead roman lead = Unit {0}
HeldLead katakana lead = Unit {0}
HeldLead lead_byte lead = Unit {0}
HeldLead trail_byte lead = (0x21 ≤ lead) × (lead ≤ 0x7E)
HeldLead escape_start lead = Unit {0}
HeldLead escape lead = (lead ≡ 0x24) ⊎ (lead ≡ 0x28)

abbrev Held : Verdict Decoder → Type 0
Held r = HeldLead (vars_of r).decoder_state_lem (vars_of r).lead

as_held : (o : OutputState) (lead : ℕ) → HeldLead (as_state o) lead
as_held out_ascii lead = tt
as_held out_roman lead = tt
as_held out_katakana lead = tt
as_held out_lead_byte lead = tt

module _ (indexed : ℕ → Bool) (out : OutputState) (lead : ℕ) (output : Bool) (b : ℕ) where
  abbrev OnByte : DecoderState → Type 0
  OnByte st = Held (on_byte indexed st (variables st out lead output) b)

  set_held : (s : Set) → Held (after_set (lead ∷ b ∷ []) (variables escape out lead output) s)
  unfolding after_set vars_of
  set_held null = as_held out 0
  set_held (state o) = either Held output (λ e. as_held o 0) (λ e. as_held o 0)

  held : (st : DecoderState) → OnByte st
  unfolding on_byte vars_of
  held ascii = either Held (eqb b 0x1B) (λ e. tt) (λ e. either Held (is_text_lem b) (λ e. tt) (λ e. tt))
  held roman = either Held (eqb b 0x1B) (λ e. tt) (λ e. either Held (is_text_lem b) (λ e. tt) (λ e. tt))
  held katakana = either Held (eqb b 0x1B) (λ e. tt) (λ e. either Held (between 0x21 0x5F b) (λ e. tt) (λ e. tt))
  held lead_byte = either Held (eqb b 0x1B) (λ e. tt) (λ e. either Held (between 0x21 0x7E b) (λ e. (between_low 0x21 0x7E b e, between_high 0x21 0x7E b e)) (λ e. tt))
  held trail_byte = either Held (eqb b 0x1B) (λ e. tt) (λ e. either Held (between 0x21 0x7E b) (λ e. either Held (indexed (pointer lead b)) (λ e. tt) (λ e. tt)) (λ e. tt))
  held escape_start = either Held (leads_escape b) (λ e. escape_lead b e) (λ e. as_held out lead)
  held escape = set_held (set_by lead b)

reached_held : (indexed : ℕ → Bool) {d : Decoder} → Reached indexed d → HeldLead d.decoder_state_lem d.lead
unfolding handler
reached_held indexed at_start = tt
reached_held indexed (on {d} r b) = held indexed d.output_state_lem d.lead d.output b d.decoder_state_lem

held_sound : (st : DecoderState) (out : OutputState) (lead : ℕ) (output : Bool) → HeldLead st lead → Sound (record_of (variables st out lead output))
held_sound ascii out lead output h = refl
held_sound roman out lead output h = refl
held_sound katakana out lead output h = refl
held_sound lead_byte out lead output h = refl
held_sound trail_byte out lead output h = h
held_sound escape_start out lead output h = refl
held_sound escape out lead output h = h

pub reached_sound : (indexed : ℕ → Bool) {d : Decoder} → Reached indexed d → Sound (record_of d)
reached_sound indexed {d} r = held_sound d.decoder_state_lem d.output_state_lem d.lead d.output (reached_held indexed r)
