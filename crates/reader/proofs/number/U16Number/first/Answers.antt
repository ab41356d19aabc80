-- `first` of u16 meets its contract.
use Rattle.std.proofs.Common.{◌∙◌}
use Rattle.reader.specs.LittleLaws.{two_read}
use Rattle.reader.proofs.number.U16Number.first.Goals as goal

pub returns : goal.returns
returns c = c.from_le_bytes.ensures ∙ two_read _ _ c.padded.ensures
