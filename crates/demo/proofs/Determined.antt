-- Each public function's contract asks nothing and determines the reply.
use Rattle.std.proofs.Common.{refl, ℕ, ◌*◌, ◌^◌, ◌<◌, w64, Fits}
use mathlib.Core.List.{not-mem-nil}
use Rattle.laws.specs.Determined.{Determined, same}
use Rattle.demo.proofs.classes.Kinds as classes-kinds
use Rattle.demo.proofs.classes.Reads as classes-reads
use Rattle.demo.proofs.marks.Kinds as marks-kinds
use Rattle.demo.proofs.marks.Reads as marks-reads
use Rattle.demo.proofs.pairs.Kinds as pairs-kinds
use Rattle.demo.proofs.pairs.Reads as pairs-reads
use Rattle.demo.proofs.unmapped.Kinds as unmapped-kinds
use Rattle.demo.proofs.unmapped.Reads as unmapped-reads
use Rattle.demo.proofs.extras.Kinds as extras-kinds
use Rattle.demo.proofs.extras.Reads as extras-reads
use Rattle.demo.proofs.weights.Kinds as weights-kinds
use Rattle.demo.proofs.weights.Reads as weights-reads

pub classes : Determined 0 classes-kinds.ps classes-kinds.r classes-reads.Asked classes-reads.Learnt
classes = record { total = λ κs a. tt; one = λ κs a z z' w w' p q. (same p q, refl) }

pub marks : Determined 0 marks-kinds.ps marks-kinds.r marks-reads.Asked marks-reads.Learnt
marks = record { total = λ κs a. tt; one = λ κs a z z' w w' p q. (same p q, refl) }

pub pairs : Determined 0 pairs-kinds.ps pairs-kinds.r pairs-reads.Asked pairs-reads.Learnt
pairs = record { total = λ κs a. tt; one = λ κs a z z' w w' p q. (same p q, refl) }

pub extras : Determined 0 extras-kinds.ps extras-kinds.r extras-reads.Asked extras-reads.Learnt
extras = record { total = λ κs a. tt; one = λ κs a z z' w w' p q. (same p q, refl) }

pub weights : Determined 0 weights-kinds.ps weights-kinds.r weights-reads.Asked weights-reads.Learnt
weights = record { total = λ κs a. tt; one = λ κs a z z' w w' p q. (same p q, refl) }

-- of every length that an array of such entries can have
pub unmapped : (N : ℕ) (f : Fits w64 N) → N * 4 < 2 ^ 63 → Determined 1 (unmapped-kinds.ps N f) (unmapped-kinds.r N f) (unmapped-reads.Asked N f) (unmapped-reads.Learnt N f)
unmapped N f room = record { total = λ κs a. (λ i m. absurd (not-mem-nil m), room); one = λ κs a z z' w w' p q. (same p q, refl) }
