-- Each public function's contract asks nothing and determines the reply.
use mathlib.Core.Path.{refl}
use Rattle.laws.specs.Determined.{Determined, same}
use Rattle.octets.proofs.is_ascii.Kinds as is-ascii-kinds
use Rattle.octets.proofs.is_ascii.Reads as is-ascii-reads
use Rattle.octets.proofs.is_non_ascii.Kinds as is-non-ascii-kinds
use Rattle.octets.proofs.is_non_ascii.Reads as is-non-ascii-reads
use Rattle.octets.proofs.is_ascii_upper_case.Kinds as is-ascii-upper-case-kinds
use Rattle.octets.proofs.is_ascii_upper_case.Reads as is-ascii-upper-case-reads
use Rattle.octets.proofs.is_ascii_letter.Kinds as is-ascii-letter-kinds
use Rattle.octets.proofs.is_ascii_letter.Reads as is-ascii-letter-reads
use Rattle.octets.proofs.is_ascii_punctuation.Kinds as is-ascii-punctuation-kinds
use Rattle.octets.proofs.is_ascii_punctuation.Reads as is-ascii-punctuation-reads
use Rattle.octets.proofs.problematic_lead.Kinds as problematic-lead-kinds
use Rattle.octets.proofs.problematic_lead.Reads as problematic-lead-reads
use Rattle.octets.proofs.contains_upper_case_period_or_non_ascii.Kinds as contains-upper-case-period-or-non-ascii-kinds
use Rattle.octets.proofs.contains_upper_case_period_or_non_ascii.Reads as contains-upper-case-period-or-non-ascii-reads

pub is_ascii : Determined 0 is-ascii-kinds.ps is-ascii-kinds.r is-ascii-reads.Asked is-ascii-reads.Learnt
is_ascii = record { total = λ κs a. tt; one = λ κs a z z' w w' p q. (same p q, refl) }

pub is_non_ascii : Determined 0 is-non-ascii-kinds.ps is-non-ascii-kinds.r is-non-ascii-reads.Asked is-non-ascii-reads.Learnt
is_non_ascii = record { total = λ κs a. tt; one = λ κs a z z' w w' p q. (same p q, refl) }

pub is_ascii_upper_case : Determined 0 is-ascii-upper-case-kinds.ps is-ascii-upper-case-kinds.r is-ascii-upper-case-reads.Asked is-ascii-upper-case-reads.Learnt
is_ascii_upper_case = record { total = λ κs a. tt; one = λ κs a z z' w w' p q. (same p q, refl) }

pub is_ascii_letter : Determined 0 is-ascii-letter-kinds.ps is-ascii-letter-kinds.r is-ascii-letter-reads.Asked is-ascii-letter-reads.Learnt
is_ascii_letter = record { total = λ κs a. tt; one = λ κs a z z' w w' p q. (same p q, refl) }

pub is_ascii_punctuation : Determined 0 is-ascii-punctuation-kinds.ps is-ascii-punctuation-kinds.r is-ascii-punctuation-reads.Asked is-ascii-punctuation-reads.Learnt
is_ascii_punctuation = record { total = λ κs a. tt; one = λ κs a z z' w w' p q. (same p q, refl) }

pub problematic_lead : Determined 0 problematic-lead-kinds.ps problematic-lead-kinds.r problematic-lead-reads.Asked problematic-lead-reads.Learnt
problematic_lead = record { total = λ κs a. tt; one = λ κs a z z' w w' p q. (same p q, refl) }

pub contains_upper_case_period_or_non_ascii : Determined 1 contains-upper-case-period-or-non-ascii-kinds.ps contains-upper-case-period-or-non-ascii-kinds.r contains-upper-case-period-or-non-ascii-reads.Asked contains-upper-case-period-or-non-ascii-reads.Learnt
contains_upper_case_period_or_non_ascii = record { total = λ κs a. tt; one = λ κs a z z' w w' p q. (same p q, refl) }
