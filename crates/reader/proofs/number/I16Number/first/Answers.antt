-- `first` of i16 meets its contract.
use Rattle.std.proofs.Common.{w16, to_z, ap, ◌∙◌}
use Rattle.laws.specs.Sizes.{thru}
use Rattle.reader.specs.LittleLaws.{two_read}
use Rattle.reader.proofs.number.I16Number.first.Goals as goal

pub returns : goal.returns
returns c = thru w16 _ (record { sfits = c.from_le_bytes.type_inv }) ∙ (c.from_le_bytes.ensures ∙ ap (to_z w16) (two_read _ _ c.padded.ensures))
