-- `count_line` meets its contract.
use Rattle.scribe.specs.LentLaws.{with_both}
use Rattle.sheet.proofs.count_line.Goals as goal

pub returns : goal.returns
returns c = with_both _ _ _ (with_both _ _ _ c.word.ensures c.decimal.ensures) c.byte.ensures
