-- `hex` meets its contract.
use Rattle.scribe.specs.LentLaws.{with_both}
use Rattle.lines.proofs.fields.hex.Goals as goal

pub returns : goal.returns
returns c = with_both _ _ _ c.word.ensures c.hex.ensures
