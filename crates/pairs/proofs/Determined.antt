-- Each public function's contract asks nothing and determines the reply.
use mathlib.Core.Path.{refl}
use Rattle.laws.specs.Determined.{Determined, same}
use Rattle.pairs.proofs.is_lead.Kinds as is-lead-kinds
use Rattle.pairs.proofs.is_lead.Reads as is-lead-reads
use Rattle.pairs.proofs.is_lead_or_none.Kinds as is-lead-or-none-kinds
use Rattle.pairs.proofs.is_lead_or_none.Reads as is-lead-or-none-reads
use Rattle.pairs.proofs.malformed.Kinds as malformed-kinds
use Rattle.pairs.proofs.malformed.Reads as malformed-reads
use Rattle.pairs.proofs.first.Kinds as first-kinds
use Rattle.pairs.proofs.first.Reads as first_reads
use Rattle.pairs.proofs.reason.Kinds as reason-kinds
use Rattle.pairs.proofs.reason.Reads as reason-reads
use Rattle.pairs.proofs.rows.Kinds as rows_kinds
use Rattle.pairs.proofs.rows.Reads as rows-reads
use Rattle.pairs.proofs.is_held_lead.Kinds as is-held-lead-kinds
use Rattle.pairs.proofs.is_held_lead.Reads as is-held-lead-reads
use Rattle.pairs.proofs.is_letter.Kinds as is-letter-kinds
use Rattle.pairs.proofs.is_letter.Reads as is-letter-reads
use Rattle.pairs.proofs.kept.Kinds as kept-kinds
use Rattle.pairs.proofs.kept.Reads as kept-reads
use Rattle.pairs.proofs.released.Kinds as released-kinds
use Rattle.pairs.proofs.released.Reads as released-reads
use Rattle.pairs.proofs.is_small.Kinds as is-small-kinds
use Rattle.pairs.proofs.is_small.Reads as is-small-reads

pub is_lead_lem : Determined 0 is-lead-kinds.ps is-lead-kinds.r is-lead-reads.Asked is-lead-reads.Learnt
is_lead_lem = record { total = λ κs a. tt; one = λ κs a z z' w w' p q. (same p q, refl) }

pub is_lead_or_none_lem : Determined 0 is-lead-or-none-kinds.ps is-lead-or-none-kinds.r is-lead-or-none-reads.Asked is-lead-or-none-reads.Learnt
is_lead_or_none_lem = record { total = λ κs a. tt; one = λ κs a z z' w w' p q. (same p q, refl) }

pub malformed : Determined 0 malformed-kinds.ps malformed-kinds.r malformed-reads.Asked malformed-reads.Learnt
malformed = record { total = λ κs a. tt; one = λ κs a z z' w w' p q. (same p q, refl) }

pub first : Determined 0 first-kinds.ps first-kinds.r first_reads.Asked first_reads.Learnt
first = record { total = λ κs a. tt; one = λ κs a z z' w w' p q. (same p q, refl) }

pub reason : Determined 0 reason-kinds.ps reason-kinds.r reason-reads.Asked reason-reads.Learnt
reason = record { total = λ κs a. tt; one = λ κs a z z' w w' p q. (same p q, refl) }

pub rows : Determined 0 rows_kinds.ps rows_kinds.r rows-reads.Asked rows-reads.Learnt
rows = record { total = λ κs a. tt; one = λ κs a z z' w w' p q. (same p q, refl) }

pub is_held_lead_lem : Determined 0 is-held-lead-kinds.ps is-held-lead-kinds.r is-held-lead-reads.Asked is-held-lead-reads.Learnt
is_held_lead_lem = record { total = λ κs a. tt; one = λ κs a z z' w w' p q. (same p q, refl) }

pub is_letter : Determined 0 is-letter-kinds.ps is-letter-kinds.r is-letter-reads.Asked is-letter-reads.Learnt
is_letter = record { total = λ κs a. tt; one = λ κs a z z' w w' p q. (same p q, refl) }

pub kept : Determined 0 kept-kinds.ps kept-kinds.r kept-reads.Asked kept-reads.Learnt
kept = record { total = λ κs a. tt; one = λ κs a z z' w w' p q. (same p q, refl) }

pub released : Determined 0 released-kinds.ps released-kinds.r released-reads.Asked released-reads.Learnt
released = record { total = λ κs a. tt; one = λ κs a z z' w w' p q. (same p q, refl) }

pub is_small : Determined 0 is-small-kinds.ps is-small-kinds.r is-small-reads.Asked is-small-reads.Learnt
is_small = record { total = λ κs a. tt; one = λ κs a z z' w w' p q. (same p q, refl) }
