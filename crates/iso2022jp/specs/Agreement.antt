-- How the machine's record stands for the Standard's variables, and its outcomes for the Standard's results.
use Rattle.std.specs.Prelude.{ℕ}
use Rattle.laws.specs.declared.Reason.{Reason}
use Rattle.laws.specs.declared.Reason.TheVariants.{BadByte, BrokenEscape, CutAtClose}
use Rattle.laws.specs.Handler.{Item, end_of_queue, byte}
use Rattle.laws.specs.Run.{Outcome}
use Rattle.iso2022jp.specs.declared.DecoderState.{DecoderState as MachineState}
use Rattle.iso2022jp.specs.declared.DecoderState.TheVariants.{Ascii, Roman, Katakana, LeadByte, TrailByte, EscapeStart, Escape}
use Rattle.iso2022jp.specs.declared.OutputState.{OutputState as MachineOutput}
use Rattle.iso2022jp.specs.declared.OutputState.TheVariants.{Ascii as OutAscii, Roman as OutRoman, Katakana as OutKatakana, LeadByte as OutLeadByte}
use Rattle.iso2022jp.specs.declared.Iso2022Jp.{Iso2022Jp}
use Rattle.laws.specs.Validator.{Verdict, outcome_by}
use Rattle.iso2022jp.specs.Standard.{DecoderState, ascii, roman, katakana, lead_byte, trail_byte, escape_start, escape, OutputState, out_ascii, out_roman, out_katakana, out_lead_byte, Decoder}
use Rattle.iso2022jp.specs.Iso2022Jp.{holds}

abbrev pub decoder_state : DecoderState → MachineState
decoder_state ascii = Ascii
decoder_state roman = Roman
decoder_state katakana = Katakana
decoder_state lead_byte = LeadByte
decoder_state trail_byte = TrailByte
decoder_state escape_start = EscapeStart
decoder_state escape = Escape

abbrev pub output_state : OutputState → MachineOutput
output_state out_ascii = OutAscii
output_state out_roman = OutRoman
output_state out_katakana = OutKatakana
output_state out_lead_byte = OutLeadByte

-- the lead where it is pending; the Standard leaves an old one behind in other states, and never reads it there
abbrev pub pending_lead : DecoderState → ℕ → ℕ
pending_lead ascii lead = 0
pending_lead roman lead = 0
pending_lead katakana lead = 0
pending_lead lead_byte lead = 0
pending_lead trail_byte lead = lead
pending_lead escape_start lead = 0
pending_lead escape lead = lead

abbrev pub record_of : Decoder → Iso2022Jp
record_of d = holds (decoder_state d.decoder_state_lem) (output_state d.output_state_lem) (pending_lead d.decoder_state_lem d.lead) d.output

-- why the decoder's error drops the machine out, from the variables before the item: an escape that has begun is broken, any other
-- byte is bad, and the end cuts
abbrev pub reason_in : DecoderState → Reason
reason_in ascii = BadByte
reason_in roman = BadByte
reason_in katakana = BadByte
reason_in lead_byte = BadByte
reason_in trail_byte = BadByte
reason_in escape_start = BrokenEscape
reason_in escape = BrokenEscape

abbrev pub reason_of : Decoder → Item → Reason
reason_of d end_of_queue = CutAtClose
reason_of d (byte b) = reason_in d.decoder_state_lem

abbrev pub outcome_of : Reason → Verdict Decoder → Outcome Iso2022Jp
outcome_of why r = outcome_by record_of why r
