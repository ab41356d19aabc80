-- `at_cut` meets its contract.
use Rattle.scribe.specs.LentLaws.{with_both}
use Rattle.spot.proofs.at_cut.Goals as goal

pub returns : goal.returns
returns c = with_both _ _ _ c.byte.ensures c.at_end.ensures
