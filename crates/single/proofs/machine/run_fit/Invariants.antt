-- `run_fit` meets its contract: the loop of `Going`, with what the step before has noted.
use Rattle.laws.specs.Going.{Going}
use Rattle.laws.specs.Limit.{room}
use Rattle.weights.specs.Weights.{per_byte}
use Rattle.single.specs.Lists.{lists}
use Rattle.single.proofs.machine.run_fit.Given as goal

abbrev pub invariant-loop-i : goal.invariant-loop-i
invariant-loop-i g l =
    record {
      going : Going (g.M.SingleByte.step_of (lists l.lent)) g.M.SingleByte.Sound per_byte room l.initial.m l.part l.i (g.M.SingleByte.noted l.part l.i l.m) l.score;
      rests : g.M.SingleByte.Rests (lists l.lent) l.i l.m;
    }
