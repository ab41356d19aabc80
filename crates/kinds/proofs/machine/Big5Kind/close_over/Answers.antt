-- The end of the stream changes no score.
use Rattle.weights.specs.Weights.{per_byte}
use Rattle.kinds.specs.KindsLaws.{closed_big5}
use Rattle.kinds.proofs.machine.Big5Kind.close_over.Goals as goal

pub returns-clause-bounded : goal.returns-clause-bounded
returns-clause-bounded c = rw c.close.ensures (closed_big5 per_byte c.args.self)
