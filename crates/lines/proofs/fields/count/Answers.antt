-- `count` meets its contract.
use Rattle.scribe.specs.LentLaws.{with_both}
use Rattle.lines.proofs.fields.count.Goals as goal

pub returns : goal.returns
returns c = with_both _ _ _ c.word.ensures c.decimal.ensures
