-- `dropped` meets its contract.
use Rattle.scribe.specs.LentLaws.{with_both}
use Rattle.spot.specs.Spot.{spot_text}
use Rattle.spot.proofs.dropped.Goals as goal

pub returns : goal.returns
unfolding spot_text
returns c = with_both _ _ _ c.why.ensures c.location.ensures
