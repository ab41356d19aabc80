-- Each public function's contract asks nothing and determines the reply.
use mathlib.Core.Path.{refl}
use Rattle.laws.specs.Determined.{Determined, same}
use Rattle.euckr_decoder.proofs.is_trail.Kinds as is-trail-kinds
use Rattle.euckr_decoder.proofs.is_trail.Reads as is-trail-reads
use Rattle.euckr_decoder.proofs.decode.Kinds as decode-kinds
use Rattle.euckr_decoder.proofs.decode.Reads as decode-reads
use Rattle.euckr_decoder.proofs.decoded.Kinds as decoded-kinds
use Rattle.euckr_decoder.proofs.decoded.Reads as decoded-reads

pub is_trail_lem : Determined 0 is-trail-kinds.ps is-trail-kinds.r is-trail-reads.Asked is-trail-reads.Learnt
is_trail_lem = record { total = λ κs a. tt; one = λ κs a z z' w w' p q. (same p q, refl) }

pub decode : Determined 1 decode-kinds.ps decode-kinds.r decode-reads.Asked decode-reads.Learnt
decode = record { total = λ κs a. tt; one = λ κs a z z' w w' p q. (same p q, refl) }

pub decoded : Determined 1 decoded-kinds.ps decoded-kinds.r decoded-reads.Asked decoded-reads.Learnt
decoded = record { total = λ κs a. tt; one = λ κs a z z' w w' p q. (same p q, refl) }
