-- The ISO-2022-JP machine: the Standard's states, the pending lead and the output flag. A byte changes no score.
use Rattle.std.specs.Prelude.{◌≡◌, Bool, true, false, cond, not, ◌&&◌, ◌||◌, List, [], ◌∷◌, ◌⊎◌, ℕ, ◌+◌, ◌-◌, ◌*◌, ◌≤◌, eqb, get_or, Option, Some, None, Result, Ok, Err}
use Rattle.laws.specs.Lists.{is_in}
use Rattle.lengths.specs.Lengths.{jis_count}
use Rattle.laws.specs.Answer.{reached, tested}
use Rattle.laws.specs.declared.Reason.{Reason}
use Rattle.laws.specs.declared.Reason.TheVariants.{BadByte, BrokenEscape, CutAtClose}
use Rattle.laws.specs.declared.Stop.{Stop}
use Rattle.laws.specs.Run.{Outcome, none, alive, run, last_at}
use Rattle.octets.specs.Octets.{between}
use Rattle.entries.specs.Entries.{is_mapped}
use Rattle.entries.specs.Ready.{Ready as ReadyFor, ready_b}
use Rattle.iso2022jp.specs.declared.DecoderState.{DecoderState}
use Rattle.iso2022jp.specs.declared.DecoderState.TheVariants.{Ascii, Roman, Katakana, LeadByte, TrailByte, EscapeStart, Escape}
use Rattle.iso2022jp.specs.declared.OutputState.{OutputState}
use Rattle.iso2022jp.specs.declared.OutputState.TheVariants.{Ascii as OutAscii, Roman as OutRoman, Katakana as OutKatakana, LeadByte as OutLeadByte}
use Rattle.iso2022jp.specs.declared.Iso2022Jp.{Iso2022Jp}

-- ---- records
abbrev pub holds : DecoderState → OutputState → ℕ → Bool → Iso2022Jp
holds state out lead output = record { state = state; out = out; lead = lead; output = output }

abbrev pub fresh : Iso2022Jp
fresh = holds Ascii OutAscii 0 false

-- what a lead can be: that of a pair where its trail is due, that of an escape where its last byte is due, else 0
abbrev pub LeadIn : DecoderState → ℕ → Type 0
LeadIn Ascii lead = lead ≡ 0
LeadIn Roman lead = lead ≡ 0
LeadIn Katakana lead = lead ≡ 0
LeadIn LeadByte lead = lead ≡ 0
LeadIn TrailByte lead = (0x21 ≤ lead) × (lead ≤ 0x7E)
LeadIn EscapeStart lead = lead ≡ 0
LeadIn Escape lead = (lead ≡ 0x24) ⊎ (lead ≡ 0x28)

-- the records that the kind can hold
abbrev pub Sound : Iso2022Jp → Type 0
Sound m = LeadIn m.state m.lead

abbrev pub leads_escape : ℕ → Bool
leads_escape b = eqb b 0x24 || eqb b 0x28

unfoldable pub lead_in_b : DecoderState → ℕ → Bool
lead_in_b Ascii lead = eqb lead 0
lead_in_b Roman lead = eqb lead 0
lead_in_b Katakana lead = eqb lead 0
lead_in_b LeadByte lead = eqb lead 0
lead_in_b TrailByte lead = between 0x21 0x7E lead
lead_in_b EscapeStart lead = eqb lead 0
lead_in_b Escape lead = leads_escape lead

abbrev pub sound_b : Iso2022Jp → Bool
sound_b m = lead_in_b m.state m.lead

-- ---- the lent index
-- whether the index has a code point at a pointer
abbrev pub indexed_by : List ℕ → ℕ → Bool
indexed_by index pointer = is_mapped false (get_or index pointer 0)

-- ---- one byte
abbrev pub escape_byte : ℕ
escape_byte = 0x1B

-- An error in an escape that has begun is a broken escape, any other a bad byte.

-- an escape begins, and what was put out since the last one stays known
abbrev pub started : Iso2022Jp → Iso2022Jp
started m = holds EscapeStart m.out 0 m.output

-- something is put out
abbrev pub put_out : DecoderState → Iso2022Jp → Iso2022Jp
put_out state m = holds state m.out 0 false

-- what ASCII and Roman put out
unfoldable pub is_text : ℕ → Bool
is_text b = between 0x00 0x7F b && not (is_in (0x0E ∷ 0x0F ∷ escape_byte ∷ []) b)

unfoldable pub ascii_of : DecoderState → Iso2022Jp → ℕ → Outcome Iso2022Jp
ascii_of state m b =
    cond (eqb b escape_byte) (alive (started m))
    (cond (is_text b) (alive (put_out state m)) (none BadByte))

-- 21 up to a highest byte
unfoldable pub ranged_of : Iso2022Jp → Iso2022Jp → ℕ → ℕ → Outcome Iso2022Jp
ranged_of m next high b =
    cond (eqb b escape_byte) (alive (started m))
    (cond (between 0x21 high b) (alive next) (none BadByte))

abbrev pub katakana_of : Iso2022Jp → ℕ → Outcome Iso2022Jp
katakana_of m b = ranged_of m (put_out Katakana m) 0x5F b

abbrev pub lead_of : Iso2022Jp → ℕ → Outcome Iso2022Jp
lead_of m b = ranged_of m (holds TrailByte m.out b false) 0x7E b

-- where a pair stands in the index
abbrev pub pair_at : ℕ → ℕ → ℕ
pair_at lead b = (lead - 0x21) * 94 + (b - 0x21)

-- how many entries, from the first on, a pair can stand at: 94 rows of 94. The index that is lent has more, which are not read
abbrev pub first_count : ℕ
first_count = 8836

unfoldable pub trail_of : List ℕ → Iso2022Jp → ℕ → Outcome Iso2022Jp
trail_of index m b =
    cond (between 0x21 0x7E b)
    (cond (indexed_by index (pair_at m.lead b)) (alive (holds LeadByte m.out 0 m.output)) (none BadByte))
    (none BadByte)

unfoldable pub escape_start_of : Iso2022Jp → ℕ → Outcome Iso2022Jp
escape_start_of m b = cond (leads_escape b) (alive (holds Escape m.out b m.output)) (none BrokenEscape)

-- what an escape's two bytes designate
unfoldable pub designated : ℕ → ℕ → Option OutputState
designated lead b =
    cond (eqb lead 0x28 && eqb b 0x42) (Some OutAscii)
    (cond (eqb lead 0x28 && eqb b 0x4A) (Some OutRoman)
    (cond (eqb lead 0x28 && eqb b 0x49) (Some OutKatakana)
    (cond (eqb lead 0x24 && (eqb b 0x40 || eqb b 0x42)) (Some OutLeadByte) None)))

unfoldable pub state_of : OutputState → DecoderState
state_of OutAscii = Ascii
state_of OutRoman = Roman
state_of OutKatakana = Katakana
state_of OutLeadByte = LeadByte

unfoldable pub escaped_to : Bool → Option OutputState → Outcome Iso2022Jp
escaped_to output None = none BrokenEscape
escaped_to output (Some o) = cond output (none BrokenEscape) (alive (holds (state_of o) o 0 true))

abbrev pub escape_of : Iso2022Jp → ℕ → Outcome Iso2022Jp
escape_of m b = escaped_to m.output (designated m.lead b)

unfoldable pub step_in : List ℕ → DecoderState → Iso2022Jp → ℕ → Outcome Iso2022Jp
step_in index Ascii m b = ascii_of Ascii m b
step_in index Roman m b = ascii_of Roman m b
step_in index Katakana m b = katakana_of m b
step_in index LeadByte m b = lead_of m b
step_in index TrailByte m b = trail_of index m b
step_in index EscapeStart m b = escape_start_of m b
step_in index Escape m b = escape_of m b

abbrev pub step_of : List ℕ → Iso2022Jp → ℕ → Outcome Iso2022Jp
step_of index m b = step_in index m.state m b

-- the byte leaves the record as it is
unfoldable pub Passes : Iso2022Jp → ℕ → Type 0
Passes m b = (index : List ℕ) → step_of index m b ≡ alive m

-- ---- the end of the stream
unfoldable pub close_in : DecoderState → Iso2022Jp → Outcome Iso2022Jp
close_in Ascii m = alive m
close_in Roman m = alive m
close_in Katakana m = alive m
close_in LeadByte m = alive m
close_in TrailByte m = none CutAtClose
close_in EscapeStart m = none CutAtClose
close_in Escape m = none CutAtClose

abbrev pub close_of : Iso2022Jp → Outcome Iso2022Jp
close_of m = close_in m.state m

-- ---- the code's answers
abbrev pub out_of : Result Iso2022Jp Reason → Outcome Iso2022Jp
out_of (Ok m) = alive m
out_of (Err why) = none why

-- over the index of the right length
abbrev pub Ready : List ℕ → Iso2022Jp → List ℕ → Type 0
Ready index m xs = ReadyFor (Sound m) jis_count index xs

-- the change of the score, which is 0, is not told
unfoldable pub ran_of : List ℕ → Iso2022Jp → List ℕ → Result Iso2022Jp Stop
ran_of index m xs = tested (ready_b (sound_b m) jis_count index xs) (reached (last_at (step_of index) (alive m) xs) (run (step_of index) (alive m) xs))

-- the end takes no byte
unfoldable pub closed_of : Iso2022Jp → Result Iso2022Jp Stop
closed_of m = tested (sound_b m) (reached 0 (close_of m))
