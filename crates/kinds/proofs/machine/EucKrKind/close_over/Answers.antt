-- The end of the stream changes no score.
use Rattle.weights.specs.Weights.{per_byte}
use Rattle.kinds.specs.KindsLaws.{closed_euckr}
use Rattle.kinds.proofs.machine.EucKrKind.close_over.Goals as goal

pub returns-clause-bounded : goal.returns-clause-bounded
returns-clause-bounded c = rw c.close.ensures (closed_euckr per_byte c.args.self)
