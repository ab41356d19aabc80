-- `greatest` meets its contract: the first places were looked at.
use native.Mathlib.Omega.{arith}
use Rattle.state.specs.LeaderLaws.{looked_next, looked_best}
use Rattle.state.proofs.leader.greatest.Goals as goal

pub loop-k-preserved : goal.loop-k-preserved
loop-k-preserved c = let l = c.loop-k in looked_next c.args.places l.best c.better-best.result l.k _ l.invariant c.loop-k-test.true c.better-best.ensures

pub returns : goal.returns
returns c = let l = c.loop-k in looked_best c.args.places l.best l.k l.invariant (omega (arith, c.loop-k-test.false))
