-- `extras` meets its contract.
use mathlib.Core.Path.{refl}
use Rattle.demo.specs.Demo.{extras}
use Rattle.demo.proofs.extras.Goals as goal

pub returns : goal.returns
unfolding extras
returns c = refl
