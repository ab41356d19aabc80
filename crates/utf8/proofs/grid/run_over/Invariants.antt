-- `grid::run_over` meets its contract. In both loops the state is the one after the bytes passed, all of which were taken; the
-- measure of the first is what is left of the part.
use Rattle.std.specs.Prelude.{◌-◌, length}
use Rattle.utf8.specs.GridLaws.{On}
use Rattle.utf8.proofs.grid.run_over.Given as goal

abbrev pub invariant-loop-at : goal.invariant-loop-at
invariant-loop-at l = On l.from l.part l.state l.at

abbrev pub decreases-loop-at : goal.decreases-loop-at
decreases-loop-at l = length l.part - l.at

abbrev pub invariant-loop-i : goal.invariant-loop-i
invariant-loop-i l = On l.from l.part l.state l.i
