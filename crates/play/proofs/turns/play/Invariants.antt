-- `play` is safe and ends.
use Rattle.std.proofs.Common.{length}
use Rattle.play.specs.Within.{Within}
use Rattle.play.proofs.turns.play.Given as goal

abbrev pub invariant-loop : goal.invariant-loop
invariant-loop l = Within (length l.window) l.t.span
