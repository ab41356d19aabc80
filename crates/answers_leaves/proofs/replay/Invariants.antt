-- `replay` is safe and ends: it stays within the answers, and the measure is what is left of them.
use Rattle.std.proofs.Common.{◌-◌, ◌≤◌, length}
use Rattle.answers_leaves.proofs.replay.Given as goal

abbrev pub invariant-loop-p : goal.invariant-loop-p
invariant-loop-p l = l.p.at ≤ length l.answers

abbrev pub decreases-loop-p : goal.decreases-loop-p
decreases-loop-p l = length l.answers - l.p.at
