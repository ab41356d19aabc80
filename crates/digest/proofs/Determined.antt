-- The contract of each public function that gives something back asks nothing and determines the reply.
use mathlib.Core.Path.{refl}
use Rattle.laws.specs.Determined.{Determined, same}
use Rattle.digest.proofs.Digest.fresh.Kinds as fresh-kinds
use Rattle.digest.proofs.Digest.fresh.Reads as fresh-reads
use Rattle.digest.proofs.Digest.with.Kinds as with-kinds
use Rattle.digest.proofs.Digest.with.Reads as with-reads

pub fresh : Determined 0 fresh-kinds.ps fresh-kinds.r fresh-reads.Asked fresh-reads.Learnt
fresh = record { total = λ κs a. tt; one = λ κs a z z' w w' p q. (same p q, refl) }

pub with : Determined 1 with-kinds.ps with-kinds.r with-reads.Asked with-reads.Learnt
with = record { total = λ κs a. tt; one = λ κs a z z' w w' p q. (same p q, refl) }
