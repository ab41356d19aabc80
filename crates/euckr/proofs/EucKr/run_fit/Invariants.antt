-- `EucKr::run_fit` meets its contract: the loop of `Going`.
use Rattle.laws.specs.Going.{Going}
use Rattle.laws.specs.Limit.{room}
use Rattle.weights.specs.Weights.{per_byte}
use Rattle.euckr.specs.Scoring.{lent, step_of}
use Rattle.euckr.specs.EucKr.{Sound}
use Rattle.euckr.proofs.EucKr.run_fit.Given as goal

abbrev pub invariant-loop-i : goal.invariant-loop-i
invariant-loop-i l = Going (step_of (lent l.index l.extras l.w)) Sound per_byte room l.initial.m l.part l.i l.m l.s
