-- Each public function's contract asks nothing and determines the reply.
use mathlib.Core.Path.{refl}
use Rattle.laws.specs.Determined.{Determined, same}
use Rattle.context.proofs.Context.fresh.Kinds as fresh-kinds
use Rattle.context.proofs.Context.fresh.Reads as fresh-reads
use Rattle.context.proofs.Context.push.Kinds as push-kinds
use Rattle.context.proofs.Context.push.Reads as push-reads
use Rattle.context.proofs.Context.bytes.Kinds as bytes-kinds
use Rattle.context.proofs.Context.bytes.Reads as bytes-reads
use Rattle.context.proofs.Context.count.Kinds as count-kinds
use Rattle.context.proofs.Context.count.Reads as count-reads
use Rattle.context.proofs.count_non_ascii.Kinds as count-non-ascii-kinds
use Rattle.context.proofs.count_non_ascii.Reads as count-non-ascii-reads
use Rattle.context.proofs.scan.Kinds as scan-kinds
use Rattle.context.proofs.scan.Reads as scan-reads

pub fresh : Determined 0 fresh-kinds.ps fresh-kinds.r fresh-reads.Asked fresh-reads.Learnt
fresh = record { total = λ κs a. tt; one = λ κs a z z' w w' p q. (same p q, refl) }

pub push : Determined 1 push-kinds.ps push-kinds.r push-reads.Asked push-reads.Learnt
push = record { total = λ κs a. tt; one = λ κs a z z' w w' p q. (same p q, refl) }

pub bytes : Determined 0 bytes-kinds.ps bytes-kinds.r bytes-reads.Asked bytes-reads.Learnt
bytes = record { total = λ κs a. tt; one = λ κs a z z' w w' p q. (same p q, refl) }

pub count : Determined 0 count-kinds.ps count-kinds.r count-reads.Asked count-reads.Learnt
count = record { total = λ κs a. tt; one = λ κs a z z' w w' p q. (same p q, refl) }

pub count_non_ascii : Determined 1 count-non-ascii-kinds.ps count-non-ascii-kinds.r count-non-ascii-reads.Asked count-non-ascii-reads.Learnt
count_non_ascii = record { total = λ κs a. tt; one = λ κs a z z' w w' p q. (same p q, refl) }

pub scan : Determined 1 scan-kinds.ps scan-kinds.r scan-reads.Asked scan-reads.Learnt
scan = record { total = λ κs a. tt; one = λ κs a z z' w w' p q. (same p q, refl) }
