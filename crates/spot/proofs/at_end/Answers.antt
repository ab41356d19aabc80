-- `at_end` meets its contract.
use Rattle.scribe.specs.LentLaws.{with_both}
use Rattle.spot.specs.Spot.{end_text}
use Rattle.spot.proofs.at_end.Goals as goal

pub returns : goal.returns
unfolding end_text
returns c = with_both _ _ _ (with_both _ _ _ (with_both _ _ _ c.word.ensures c.decimal.ensures) c.byte.ensures) c.before-2.ensures
