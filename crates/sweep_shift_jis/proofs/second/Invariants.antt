-- `second` is safe and ends: what is left is a part of the stream, and the measure is its length.
use Rattle.std.proofs.Common.{◌≤◌, length}
use Rattle.sweep_shift_jis.proofs.second.Given as goal

abbrev pub invariant-loop-left : goal.invariant-loop-left
invariant-loop-left l = length l.left ≤ length l.stream

abbrev pub decreases-loop-left : goal.decreases-loop-left
decreases-loop-left l = length l.left
