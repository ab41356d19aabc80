-- Each public function's contract asks nothing and determines the reply.
use mathlib.Core.Path.{refl}
use Rattle.laws.specs.Determined.{Determined, DeterminedSeen, same}
use Rattle.tables.specs.Lists.{lists, single_lists}
use Rattle.tables.proofs.Tables.are_sized.Kinds as are-sized-kinds
use Rattle.tables.proofs.Tables.are_sized.Reads as are-sized-reads
use Rattle.tables.proofs.held.Held.zero.Kinds as held-zero-kinds
use Rattle.tables.proofs.held.Held.zero.Reads as held-zero-reads
use Rattle.tables.proofs.held.SingleFromRefHeldSingle.from.Kinds as single-from-kinds
use Rattle.tables.proofs.held.SingleFromRefHeldSingle.from.Reads as single-from-reads
use Rattle.tables.proofs.held.TablesFromRefHeld.from.Kinds as tables-from-kinds
use Rattle.tables.proofs.held.TablesFromRefHeld.from.Reads as tables-from-reads

pub are_sized : Determined 2 are-sized-kinds.ps are-sized-kinds.r are-sized-reads.Asked are-sized-reads.Learnt
are_sized = record { total = λ κs a. tt; one = λ κs a z z' w w' p q. (same p q, refl) }

pub held_zero : Determined 0 held-zero-kinds.ps held-zero-kinds.r held-zero-reads.Asked held-zero-reads.Learnt
held_zero = record { total = λ κs a. tt; one = λ κs a z z' w w' p q. (same p q, refl) }

pub single_from : DeterminedSeen 1 single-from-kinds.ps single-from-kinds.r single-from-reads.Asked single-from-reads.Learnt (λ κs. single_lists)
single_from = record { total = λ κs a. tt; one = λ κs a z z' w w' p q. (same p q, refl) }

pub tables_from : DeterminedSeen 1 tables-from-kinds.ps tables-from-kinds.r tables-from-reads.Asked tables-from-reads.Learnt (λ κs. lists)
tables_from = record { total = λ κs a. tt; one = λ κs a z z' w w' p q. (same p q, refl) }
