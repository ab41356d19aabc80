-- Each public function's contract asks nothing and determines the reply.
use mathlib.Core.Path.{refl}
use Rattle.laws.specs.Determined.{Determined, same}
use Rattle.weights.proofs.weight.Kinds as weight-kinds
use Rattle.weights.proofs.weight.Reads as weight-reads

pub weight : Determined 1 weight-kinds.ps weight-kinds.r weight-reads.Asked weight-reads.Learnt
weight = record { total = λ κs a. tt; one = λ κs a z z' w w' p q. (same p.0 q.0, refl) }
