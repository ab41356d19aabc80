-- `Big5::run_fit` meets its contract: the loop of `Going`.
use Rattle.laws.specs.Going.{Going}
use Rattle.laws.specs.Limit.{limit}
use Rattle.weights.specs.Weights.{per_byte}
use Rattle.big5.specs.Scoring.{lent, step_of}
use Rattle.big5.specs.Big5.{Sound}
use Rattle.big5.proofs.Big5.run_fit.Given as goal

abbrev pub invariant-loop-i : goal.invariant-loop-i
invariant-loop-i l = Going (step_of (lent l.index l.w)) Sound per_byte limit l.initial.m l.part l.i l.m l.score
