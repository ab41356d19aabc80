-- `first` of u64 meets its contract.
use Rattle.std.proofs.Common.{◌∙◌}
use Rattle.reader.specs.LittleLaws.{eight_read}
use Rattle.reader.proofs.number.U64Number.first.Goals as goal

pub returns : goal.returns
returns c = c.from_le_bytes.ensures ∙ eight_read _ _ c.padded.ensures
