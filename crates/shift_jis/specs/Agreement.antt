-- How the machine's record stands for the Standard's variable, and its outcomes for the Standard's results.
use Rattle.std.specs.Prelude.{ℕ}
use Rattle.laws.specs.declared.Reason.{Reason}
use Rattle.laws.specs.declared.Reason.TheVariants.{BadByte, CutAtClose}
use Rattle.laws.specs.Handler.{Item, end_of_queue, byte, Result}
use Rattle.laws.specs.Run.{Outcome}
use Rattle.laws.specs.Validator.{outcome_by}
use Rattle.shift_jis.specs.declared.ShiftJis.{ShiftJis}
use Rattle.shift_jis.specs.ShiftJis.{holds}

abbrev pub record_of : ℕ → ShiftJis
record_of lead = holds lead

-- why the decoder's error drops the machine out: a byte is bad, also after a lead, and the end cuts
abbrev pub reason_of : ℕ → Item → Reason
reason_of lead end_of_queue = CutAtClose
reason_of lead (byte b) = BadByte

abbrev pub outcome_of : Reason → Result ℕ ℕ → Outcome ShiftJis
outcome_of why r = outcome_by record_of why r
