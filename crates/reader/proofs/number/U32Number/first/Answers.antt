-- `first` of u32 meets its contract.
use Rattle.std.proofs.Common.{◌∙◌}
use Rattle.reader.specs.LittleLaws.{four_read}
use Rattle.reader.proofs.number.U32Number.first.Goals as goal

pub returns : goal.returns
returns c = c.from_le_bytes.ensures ∙ four_read _ _ c.padded.ensures
