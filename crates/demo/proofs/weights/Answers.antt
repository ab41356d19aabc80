-- `weights` meets its contract.
use mathlib.Core.Path.{refl}
use Rattle.demo.specs.Demo.{weights}
use Rattle.demo.proofs.weights.Goals as goal

pub returns : goal.returns
unfolding weights
returns c = refl
