-- The contract of each public function that gives something back asks nothing and determines the reply.
use Rattle.std.proofs.Common.{refl}
use Rattle.laws.specs.Determined.{Determined, same}
use Rattle.tally.proofs.Verdict.of.Kinds as of-kinds
use Rattle.tally.proofs.Verdict.of.Reads as of-reads
use Rattle.tally.proofs.Verdict.bad.Kinds as bad-kinds
use Rattle.tally.proofs.Verdict.bad.Reads as bad-reads
use Rattle.tally.proofs.Verdict.broken.Kinds as broken-kinds
use Rattle.tally.proofs.Verdict.broken.Reads as broken-reads
use Rattle.tally.proofs.Verdict.dropped.Kinds as dropped-kinds
use Rattle.tally.proofs.Verdict.dropped.Reads as dropped-reads
use Rattle.tally.proofs.Counts.nothing.Kinds as nothing-kinds
use Rattle.tally.proofs.Counts.nothing.Reads as nothing-reads
use Rattle.tally.proofs.Counts.counted.Kinds as counted-kinds
use Rattle.tally.proofs.Counts.counted.Reads as counted-reads

pub of : Determined 0 of-kinds.ps of-kinds.r of-reads.Asked of-reads.Learnt
of = record { total = λ κs a. tt; one = λ κs a z z' w w' p q. (same p q, refl) }

pub bad : Determined 0 bad-kinds.ps bad-kinds.r bad-reads.Asked bad-reads.Learnt
bad = record { total = λ κs a. tt; one = λ κs a z z' w w' p q. (same p q, refl) }

pub broken : Determined 0 broken-kinds.ps broken-kinds.r broken-reads.Asked broken-reads.Learnt
broken = record { total = λ κs a. tt; one = λ κs a z z' w w' p q. (same p q, refl) }

pub dropped : Determined 0 dropped-kinds.ps dropped-kinds.r dropped-reads.Asked dropped-reads.Learnt
dropped = record { total = λ κs a. tt; one = λ κs a z z' w w' p q. (same p q, refl) }

pub nothing : Determined 0 nothing-kinds.ps nothing-kinds.r nothing-reads.Asked nothing-reads.Learnt
nothing = record { total = λ κs a. tt; one = λ κs a z z' w w' p q. (same p q, refl) }

pub counted : Determined 0 counted-kinds.ps counted-kinds.r counted-reads.Asked counted-reads.Learnt
counted = record { total = λ κs a. tt; one = λ κs a z z' w w' p q. (same p q, refl) }
