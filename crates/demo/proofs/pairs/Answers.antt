-- `pairs` meets its contract.
use mathlib.Core.Path.{refl}
use Rattle.demo.specs.Demo.{pairs}
use Rattle.demo.proofs.pairs.Goals as goal

pub returns : goal.returns
unfolding pairs
returns c = refl
