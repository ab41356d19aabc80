-- `first` of i32 meets its contract.
use Rattle.std.proofs.Common.{w32, to_z, ap, ◌∙◌}
use Rattle.laws.specs.Sizes.{thru}
use Rattle.reader.specs.LittleLaws.{four_read}
use Rattle.reader.proofs.number.I32Number.first.Goals as goal

pub returns : goal.returns
returns c = thru w32 _ (record { sfits = c.from_le_bytes.type_inv }) ∙ (c.from_le_bytes.ensures ∙ ap (to_z w32) (four_read _ _ c.padded.ensures))
