-- Each public function's contract asks nothing and determines the reply.
use Rattle.std.proofs.Common.{refl}
use Rattle.laws.specs.Determined.{Determined, same}
use Rattle.signed.proofs.size.Kinds as size-kinds
use Rattle.signed.proofs.size.Reads as size-reads
use Rattle.signed.proofs.bits.Kinds as bits-kinds
use Rattle.signed.proofs.bits.Reads as bits-reads
use Rattle.signed.proofs.of_bits16.Kinds as of-bits16-kinds
use Rattle.signed.proofs.of_bits16.Reads as of-bits16-reads
use Rattle.signed.proofs.of_bits32.Kinds as of-bits32-kinds
use Rattle.signed.proofs.of_bits32.Reads as of-bits32-reads
use Rattle.signed.proofs.of_bits64.Kinds as of-bits64-kinds
use Rattle.signed.proofs.of_bits64.Reads as of-bits64-reads
use Rattle.signed.proofs.sum.Kinds as sum-kinds
use Rattle.signed.proofs.sum.Reads as sum-reads

pub size : Determined 0 size-kinds.ps size-kinds.r size-reads.Asked size-reads.Learnt
size = record { total = λ κs a. tt; one = λ κs a z z' w w' p q. (same p q, refl) }

pub bits : Determined 0 bits-kinds.ps bits-kinds.r bits-reads.Asked bits-reads.Learnt
bits = record { total = λ κs a. tt; one = λ κs a z z' w w' p q. (same p q, refl) }

pub of_bits16 : Determined 0 of-bits16-kinds.ps of-bits16-kinds.r of-bits16-reads.Asked of-bits16-reads.Learnt
of_bits16 = record { total = λ κs a. tt; one = λ κs a z z' w w' p q. (same p q, refl) }

pub of_bits32 : Determined 0 of-bits32-kinds.ps of-bits32-kinds.r of-bits32-reads.Asked of-bits32-reads.Learnt
of_bits32 = record { total = λ κs a. tt; one = λ κs a z z' w w' p q. (same p q, refl) }

pub of_bits64 : Determined 0 of-bits64-kinds.ps of-bits64-kinds.r of-bits64-reads.Asked of-bits64-reads.Learnt
of_bits64 = record { total = λ κs a. tt; one = λ κs a z z' w w' p q. (same p q, refl) }

pub sum : Determined 0 sum-kinds.ps sum-kinds.r sum-reads.Asked sum-reads.Learnt
sum = record { total = λ κs a. tt; one = λ κs a z z' w w' p q. (same p q, refl) }
