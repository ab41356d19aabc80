-- Each public function's contract asks nothing and determines the reply.
use mathlib.Core.Path.{refl}
use Rattle.laws.specs.Determined.{Determined, same}
use Rattle.iso2022jp.proofs.Iso2022Jp.fresh.Kinds as fresh-kinds
use Rattle.iso2022jp.proofs.Iso2022Jp.fresh.Reads as fresh-reads
use Rattle.iso2022jp.proofs.Iso2022Jp.is_sound.Kinds as is-sound-kinds
use Rattle.iso2022jp.proofs.Iso2022Jp.is_sound.Reads as is-sound-reads
use Rattle.iso2022jp.proofs.Iso2022Jp.run.Kinds as run-kinds
use Rattle.iso2022jp.proofs.Iso2022Jp.run.Reads as run-reads
use Rattle.iso2022jp.proofs.Iso2022Jp.close.Kinds as close-kinds
use Rattle.iso2022jp.proofs.Iso2022Jp.close.Reads as close-reads
use Rattle.iso2022jp.proofs.DecoderStateFromOutputState.from.Kinds as decoder-state-kinds
use Rattle.iso2022jp.proofs.DecoderStateFromOutputState.from.Reads as decoder-state-reads

pub fresh : Determined 0 fresh-kinds.ps fresh-kinds.r fresh-reads.Asked fresh-reads.Learnt
fresh = record { total = λ κs a. tt; one = λ κs a z z' w w' p q. (same p q, refl) }

pub is_sound : Determined 0 is-sound-kinds.ps is-sound-kinds.r is-sound-reads.Asked is-sound-reads.Learnt
is_sound = record { total = λ κs a. tt; one = λ κs a z z' w w' p q. (same p q, refl) }

pub run : Determined 2 run-kinds.ps run-kinds.r run-reads.Asked run-reads.Learnt
run = record { total = λ κs a. tt; one = λ κs a z z' w w' p q. (same p q, refl) }

pub close : Determined 0 close-kinds.ps close-kinds.r close-reads.Asked close-reads.Learnt
close = record { total = λ κs a. tt; one = λ κs a z z' w w' p q. (same p q, refl) }

pub decoder_state : Determined 0 decoder-state-kinds.ps decoder-state-kinds.r decoder-state-reads.Asked decoder-state-reads.Learnt
decoder_state = record { total = λ κs a. tt; one = λ κs a z z' w w' p q. (same p q, refl) }
