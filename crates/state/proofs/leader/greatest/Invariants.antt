-- `greatest` meets its contract: the first places were looked at.
use Rattle.state.specs.LeaderLaws.{Looked}
use Rattle.state.proofs.leader.greatest.Given as goal

abbrev pub invariant-loop-k : goal.invariant-loop-k
invariant-loop-k l = Looked l.places l.best l.k
