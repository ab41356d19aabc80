-- `first` of u8 meets its contract.
use Rattle.std.proofs.Common.{arith, ◌∙◌}
use Rattle.reader.proofs.number.U8Number.first.Goals as goal

pub returns : goal.returns
returns c = c.from_le_bytes.ensures ∙ c.padded.ensures 0 (omega arith)
