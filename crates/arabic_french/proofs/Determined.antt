-- Each public function's contract asks nothing and determines the reply; of `again` and `noted`, which ask, the second alone.
use Rattle.std.proofs.Common.{refl}
use Rattle.laws.specs.Determined.{Determined, OneReply, same}
use denote.Param.Laws.{Laws, IsCopy}
use Rattle.single.proofs.Determined as single
use Rattle.single.proofs.machine.run.Kinds as run-kinds
use Rattle.single.proofs.machine.run.Reads as run-reads
use Rattle.single.proofs.machine.close.Kinds as close-kinds
use Rattle.single.proofs.machine.close.Reads as close-reads
use Rattle.arabic_french.specs.contracts.ArabicFrench.{the_row}
use Rattle.arabic_french.proofs.ArabicFrench.fresh.Kinds as fresh-kinds
use Rattle.arabic_french.proofs.ArabicFrench.fresh.Reads as fresh-reads
use Rattle.arabic_french.proofs.ArabicFrenchSingleByte.is_sound_for.Kinds as is-sound-for-kinds
use Rattle.arabic_french.proofs.ArabicFrenchSingleByte.is_sound_for.Reads as is-sound-for-reads
use Rattle.arabic_french.proofs.ArabicFrenchAsciiBefore.prev_ascii.Kinds as prev-ascii-kinds
use Rattle.arabic_french.proofs.ArabicFrenchAsciiBefore.prev_ascii.Reads as prev-ascii-reads
use Rattle.arabic_french.proofs.ArabicFrenchSingleByte.again.Kinds as again-kinds
use Rattle.arabic_french.proofs.ArabicFrenchSingleByte.again.Reads as again-reads
use Rattle.arabic_french.proofs.ArabicFrenchSingleByte.noted.Kinds as noted-reply-kinds
use Rattle.arabic_french.proofs.ArabicFrenchSingleByte.noted.Reads as noted-reply-reads

pub fresh : Determined 0 fresh-kinds.ps fresh-kinds.r fresh-reads.Asked fresh-reads.Learnt
fresh = record { total = λ κs a. tt; one = λ κs a z z' w w' p q. (same p q, refl) }

pub is_sound_for : Determined 0 is-sound-for-kinds.ps is-sound-for-kinds.r is-sound-for-reads.Asked is-sound-for-reads.Learnt
is_sound_for = record { total = λ κs a. tt; one = λ κs a z z' w w' p q. (same p q, refl) }

pub prev_ascii : Determined 0 prev-ascii-kinds.ps prev-ascii-kinds.r prev-ascii-reads.Asked prev-ascii-reads.Learnt
prev_ascii = record { total = λ κs a. tt; one = λ κs a z z' w w' p q. (same p q, refl) }

pub again : OneReply 0 again-kinds.ps again-kinds.r again-reads.Learnt
again = record { one = λ κs a z z' w w' p q. (same p q, refl) }

pub noted_reply : OneReply 1 noted-reply-kinds.ps noted-reply-kinds.r noted-reply-reads.Learnt
noted_reply = record { one = λ κs a z z' w w' p q. (same p q, refl) }

-- ---- the run over a part and the close, of this record
pub run : (l : Laws the_row) (k : IsCopy the_row) (s : _) (sd : _) (c : _) (cd : _) → Determined 4 (run-kinds.ps the_row l k) (run-kinds.r the_row l k) (run-reads.Asked the_row l k s sd c cd) (run-reads.Learnt the_row l k s sd c cd)
run l k s sd c cd = single.run the_row l k refl s sd c cd

pub close : (l : Laws the_row) (k : IsCopy the_row) (s : _) (sd : _) (c : _) (cd : _) → Determined 3 (close-kinds.ps the_row l k) (close-kinds.r the_row l k) (close-reads.Asked the_row l k s sd c cd) (close-reads.Learnt the_row l k s sd c cd)
close l k s sd c cd = single.close the_row l k refl s sd c cd
