-- `append` is safe and ends: the measure is what is still to come.
use Rattle.std.proofs.Common.{◌≡◌, length}
use Rattle.answers_replay.proofs.append.Given as goal

abbrev pub invariant-loop-left : goal.invariant-loop-left
invariant-loop-left l = 4096 ≡ length l.block

abbrev pub decreases-loop-left : goal.decreases-loop-left
decreases-loop-left l = l.left
