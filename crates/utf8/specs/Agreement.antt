-- How the machine's record stands for the Standard's variables, and its outcomes for the Standard's results.
use Rattle.std.specs.Prelude.{◌-◌}
use Rattle.laws.specs.declared.Reason.{Reason}
use Rattle.laws.specs.declared.Reason.TheVariants.{BadByte, CutAtClose}
use Rattle.laws.specs.Handler.{Item, end_of_queue, byte}
use Rattle.laws.specs.Run.{Outcome}
use Rattle.utf8.specs.declared.Utf8.{Utf8}
use Rattle.laws.specs.Validator.{Verdict, outcome_by}
use Rattle.utf8.specs.Standard.{Decoder}
use Rattle.utf8.specs.Utf8.{needs}

-- what is still needed, and the boundaries
abbrev pub record_of : Decoder → Utf8
record_of d = needs (d.bytes_needed - d.bytes_seen) d.lower_boundary d.upper_boundary

-- why the decoder's error drops the machine out
abbrev pub reason_of : Decoder → Item → Reason
reason_of d end_of_queue = CutAtClose
reason_of d (byte b) = BadByte

abbrev pub outcome_of : Reason → Verdict Decoder → Outcome Utf8
outcome_of why r = outcome_by record_of why r
