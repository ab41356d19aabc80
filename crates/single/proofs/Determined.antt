-- Each public function's contract asks nothing and determines the reply.
use Rattle.std.proofs.Common.{◌≡◌, [], refl}
use denote.RattleType.{RattleType}
use denote.Param.Laws.{Laws, IsCopy}
use mathlib.Core.List.{not-mem-nil}
use Rattle.laws.specs.Determined.{Determined, OneReply, same}
use Rattle.single.proofs.is_common.Kinds as is-common-kinds
use Rattle.single.proofs.is_common.Reads as is-common-reads
use Rattle.single.proofs.is_non_latin_alphabetic.Kinds as is-non-latin-alphabetic-kinds
use Rattle.single.proofs.is_non_latin_alphabetic.Reads as is-non-latin-alphabetic-reads
use Rattle.single.proofs.words_after.Kinds as words-after-kinds
use Rattle.single.proofs.words_after.Reads as words-after-reads
use Rattle.single.proofs.is_at_rest.Kinds as is-at-rest-kinds
use Rattle.single.proofs.is_at_rest.Reads as is-at-rest-reads
use Rattle.single.proofs.is_punctuation.Kinds as is-punctuation-kinds
use Rattle.single.proofs.is_punctuation.Reads as is-punctuation-reads
use Rattle.single.proofs.count_if.Kinds as count-if-kinds
use Rattle.single.proofs.count_if.Reads as count-if-reads
use Rattle.single.proofs.is_ascii_pair.Kinds as is-ascii-pair-kinds
use Rattle.single.proofs.is_ascii_pair.Reads as is-ascii-pair-reads
use Rattle.single.proofs.pair_score.Kinds as pair-score-kinds
use Rattle.single.proofs.pair_score.Reads as pair-score-reads
use Rattle.single.proofs.marked_gain.Kinds as marked-gain-kinds
use Rattle.single.proofs.marked_gain.Reads as marked-gain-reads
use Rattle.single.proofs.machine.run.Kinds as run-kinds
use Rattle.single.proofs.machine.run.Reads as run-reads
use Rattle.single.proofs.machine.close.Kinds as close-kinds
use Rattle.single.proofs.machine.close.Reads as close-reads
use Rattle.single.proofs.machine.AsciiBefore.ascii_before.Kinds as before-kinds
use Rattle.single.proofs.machine.AsciiBefore.ascii_before.Reads as before-reads
use Rattle.single.proofs.machine.AsciiBefore.is_ascii_pair.Kinds as pair-kinds
use Rattle.single.proofs.machine.AsciiBefore.is_ascii_pair.Reads as pair-reads

-- ---- of every type that holds no borrow, as the records don't
pub run : (T : RattleType) (l : Laws T) (k : IsCopy T) → T.lives ≡ [] → (s : _) (sd : _) (c : _) (cd : _) → Determined 4 (run-kinds.ps T l k) (run-kinds.r T l k) (run-reads.Asked T l k s sd c cd) (run-reads.Learnt T l k s sd c cd)
run T l k none s sd c cd = record { total = λ κs a n m. absurd (not-mem-nil (rw none at m)); one = λ κs a z z' w w' p q. (same p.0 q.0, refl) }

pub close : (T : RattleType) (l : Laws T) (k : IsCopy T) → T.lives ≡ [] → (s : _) (sd : _) (c : _) (cd : _) → Determined 3 (close-kinds.ps T l k) (close-kinds.r T l k) (close-reads.Asked T l k s sd c cd) (close-reads.Learnt T l k s sd c cd)
close T l k none s sd c cd = record { total = λ κs a n m. absurd (not-mem-nil (rw none at m)); one = λ κs a z z' w w' p q. (same p.0 q.0, refl) }

-- what asks something of the caller: the reply is one all the same
pub ascii_before_reply : (T : RattleType) (l : Laws T) (k : IsCopy T) → (s : _) (sd : _) (c : _) (cd : _) → OneReply 2 (before-kinds.ps T l k) (before-kinds.r T l k) (before-reads.Learnt T l k s sd c cd)
ascii_before_reply T l k s sd c cd = record { one = λ κs a z z' w w' p q. (same p q, refl) }

pub ascii_pair_reply : (T : RattleType) (l : Laws T) (k : IsCopy T) → (s : _) (sd : _) (c : _) (cd : _) → OneReply 2 (pair-kinds.ps T l k) (pair-kinds.r T l k) (pair-reads.Learnt T l k s sd c cd)
ascii_pair_reply T l k s sd c cd = record { one = λ κs a z z' w w' p q. (same p q, refl) }

-- ----
pub is_common : Determined 0 is-common-kinds.ps is-common-kinds.r is-common-reads.Asked is-common-reads.Learnt
is_common = record { total = λ κs a. tt; one = λ κs a z z' w w' p q. (same p q, refl) }

pub is_non_latin_alphabetic : Determined 1 is-non-latin-alphabetic-kinds.ps is-non-latin-alphabetic-kinds.r is-non-latin-alphabetic-reads.Asked is-non-latin-alphabetic-reads.Learnt
is_non_latin_alphabetic = record { total = λ κs a. tt; one = λ κs a z z' w w' p q. (same p q, refl) }

pub words_after : Determined 0 words-after-kinds.ps words-after-kinds.r words-after-reads.Asked words-after-reads.Learnt
words_after = record { total = λ κs a. tt; one = λ κs a z z' w w' p q. (same p q, refl) }

pub is_at_rest : Determined 0 is-at-rest-kinds.ps is-at-rest-kinds.r is-at-rest-reads.Asked is-at-rest-reads.Learnt
is_at_rest = record { total = λ κs a. tt; one = λ κs a z z' w w' p q. (same p q, refl) }

pub is_punctuation_lem : Determined 0 is-punctuation-kinds.ps is-punctuation-kinds.r is-punctuation-reads.Asked is-punctuation-reads.Learnt
is_punctuation_lem = record { total = λ κs a. tt; one = λ κs a z z' w w' p q. (same p q, refl) }

pub count_if : Determined 0 count-if-kinds.ps count-if-kinds.r count-if-reads.Asked count-if-reads.Learnt
count_if = record { total = λ κs a. tt; one = λ κs a z z' w w' p q. (same p q, refl) }

pub is_ascii_pair : Determined 0 is-ascii-pair-kinds.ps is-ascii-pair-kinds.r is-ascii-pair-reads.Asked is-ascii-pair-reads.Learnt
is_ascii_pair = record { total = λ κs a. tt; one = λ κs a z z' w w' p q. (same p q, refl) }

pub pair_score_lem : Determined 1 pair-score-kinds.ps pair-score-kinds.r pair-score-reads.Asked pair-score-reads.Learnt
pair_score_lem = record { total = λ κs a. tt; one = λ κs a z z' w w' p q. (same p.0 q.0, refl) }

pub marked_gain : Determined 2 marked-gain-kinds.ps marked-gain-kinds.r marked-gain-reads.Asked marked-gain-reads.Learnt
marked_gain = record { total = λ κs a. tt; one = λ κs a z z' w w' p q. (same p.0 q.0, refl) }
