-- Each public function's contract asks nothing and determines the reply.
use mathlib.Core.Path.{refl}
use Rattle.laws.specs.Determined.{Determined, same}
use Rattle.state.proofs.reply.Reply.number.Kinds as reply-number-kinds
use Rattle.state.proofs.reply.Reply.number.Reads as reply-number-reads
use Rattle.state.proofs.reply.Reply.flag.Kinds as reply-flag-kinds
use Rattle.state.proofs.reply.Reply.flag.Reads as reply-flag-reads
use Rattle.state.proofs.reply.StartReply.number.Kinds as reply-start-reply-number-kinds
use Rattle.state.proofs.reply.StartReply.number.Reads as reply-start-reply-number-reads
use Rattle.state.proofs.front.Front.fresh.Kinds as front-fresh-kinds
use Rattle.state.proofs.front.Front.fresh.Reads as front-fresh-reads
use Rattle.state.proofs.front.Front.flag.Kinds as front-flag-kinds
use Rattle.state.proofs.front.Front.flag.Reads as front-flag-reads
use Rattle.state.proofs.front.Front.is_triggered.Kinds as front-is-triggered-kinds
use Rattle.state.proofs.front.Front.is_triggered.Reads as front-is-triggered-reads
use Rattle.state.proofs.front.Front.is_in_order.Kinds as front-is-in-order-kinds
use Rattle.state.proofs.front.Front.is_in_order.Reads as front-is-in-order-reads
use Rattle.state.proofs.leader.of.Kinds as leader-of-kinds
use Rattle.state.proofs.leader.of.Reads as leader-of-reads
use Rattle.state.proofs.start.Kinds as start-kinds
use Rattle.state.proofs.start.Reads as start-reads
use Rattle.state.proofs.State.is_in_order.Kinds as state-is-in-order-kinds
use Rattle.state.proofs.State.is_in_order.Reads as state-is-in-order-reads

pub reply_number : Determined 0 reply-number-kinds.ps reply-number-kinds.r reply-number-reads.Asked reply-number-reads.Learnt
reply_number = record { total = λ κs a. tt; one = λ κs a z z' w w' p q. (same p q, refl) }

pub reply_flag_lem : Determined 0 reply-flag-kinds.ps reply-flag-kinds.r reply-flag-reads.Asked reply-flag-reads.Learnt
reply_flag_lem = record { total = λ κs a. tt; one = λ κs a z z' w w' p q. (same p q, refl) }

pub reply_start_reply_number : Determined 0 reply-start-reply-number-kinds.ps reply-start-reply-number-kinds.r reply-start-reply-number-reads.Asked reply-start-reply-number-reads.Learnt
reply_start_reply_number = record { total = λ κs a. tt; one = λ κs a z z' w w' p q. (same p q, refl) }

pub front_fresh : Determined 0 front-fresh-kinds.ps front-fresh-kinds.r front-fresh-reads.Asked front-fresh-reads.Learnt
front_fresh = record { total = λ κs a. tt; one = λ κs a z z' w w' p q. (same p q, refl) }

pub front_flag : Determined 0 front-flag-kinds.ps front-flag-kinds.r front-flag-reads.Asked front-flag-reads.Learnt
front_flag = record { total = λ κs a. tt; one = λ κs a z z' w w' p q. (same p q, refl) }

pub front_is_triggered : Determined 0 front-is-triggered-kinds.ps front-is-triggered-kinds.r front-is-triggered-reads.Asked front-is-triggered-reads.Learnt
front_is_triggered = record { total = λ κs a. tt; one = λ κs a z z' w w' p q. (same p q, refl) }

pub front_is_in_order : Determined 0 front-is-in-order-kinds.ps front-is-in-order-kinds.r front-is-in-order-reads.Asked front-is-in-order-reads.Learnt
front_is_in_order = record { total = λ κs a. tt; one = λ κs a z z' w w' p q. (same p q, refl) }

pub leader_of_lem : Determined 0 leader-of-kinds.ps leader-of-kinds.r leader-of-reads.Asked leader-of-reads.Learnt
leader_of_lem = record { total = λ κs a. tt; one = λ κs a z z' w w' p q. (same p q, refl) }

pub start : Determined 0 start-kinds.ps start-kinds.r start-reads.Asked start-reads.Learnt
start = record { total = λ κs a. tt; one = λ κs a z z' w w' p q. (same p q, refl) }

pub state_is_in_order : Determined 0 state-is-in-order-kinds.ps state-is-in-order-kinds.r state-is-in-order-reads.Asked state-is-in-order-reads.Learnt
state_is_in_order = record { total = λ κs a. tt; one = λ κs a z z' w w' p q. (same p q, refl) }
