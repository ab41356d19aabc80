-- Each public function's contract asks nothing and determines the reply.
use mathlib.Core.Path.{refl}
use Rattle.laws.specs.Determined.{Determined, same}
use Rattle.entries.proofs.entry.Kinds as entry-kinds
use Rattle.entries.proofs.entry.Reads as entry-reads
use Rattle.entries.proofs.is_mapped.Kinds as is-mapped-kinds
use Rattle.entries.proofs.is_mapped.Reads as is-mapped-reads
use Rattle.entries.proofs.ready.is_ready.Kinds as is-ready-kinds
use Rattle.entries.proofs.ready.is_ready.Reads as is-ready-reads

pub entry : Determined 1 entry-kinds.ps entry-kinds.r entry-reads.Asked entry-reads.Learnt
entry = record { total = λ κs a. tt; one = λ κs a z z' w w' p q. (same p q, refl) }

pub is_mapped : Determined 0 is-mapped-kinds.ps is-mapped-kinds.r is-mapped-reads.Asked is-mapped-reads.Learnt
is_mapped = record { total = λ κs a. tt; one = λ κs a z z' w w' p q. (same p q, refl) }

pub is_ready : Determined 2 is-ready-kinds.ps is-ready-kinds.r is-ready-reads.Asked is-ready-reads.Learnt
is_ready = record { total = λ κs a. tt; one = λ κs a z z' w w' p q. (same p q, refl) }
