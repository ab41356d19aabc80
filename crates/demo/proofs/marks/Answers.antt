-- `marks` meets its contract.
use mathlib.Core.Path.{refl}
use Rattle.demo.specs.Demo.{marks}
use Rattle.demo.proofs.marks.Goals as goal

pub returns : goal.returns
unfolding marks
returns c = refl
