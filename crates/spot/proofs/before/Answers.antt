-- `before` meets its contract.
use Rattle.spot.specs.Spot.{before_text}
use Rattle.spot.proofs.before.Goals as goal

pub returns : goal.returns
unfolding before_text
returns c = rw c.saturating_sub-from.ensures at c.hexes.ensures
