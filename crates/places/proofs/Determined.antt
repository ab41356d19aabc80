-- Each public function's contract asks nothing and determines the reply.
use Rattle.std.proofs.Common.{refl}
use Rattle.laws.specs.Determined.{Determined, same}
use Rattle.places.proofs.order.are_in_order.Kinds as order-are-in-order-kinds
use Rattle.places.proofs.order.are_in_order.Reads as order-are-in-order-reads
use Rattle.places.proofs.slate.start.Kinds as slate-start-kinds
use Rattle.places.proofs.slate.start.Reads as slate-start-reads
use Rattle.places.proofs.slate.feed.Kinds as slate-feed-kinds
use Rattle.places.proofs.slate.feed.Reads as slate-feed-reads
use Rattle.places.proofs.slate.feed_after.Kinds as slate-feed-after-kinds
use Rattle.places.proofs.slate.feed_after.Reads as slate-feed-after-reads

pub order_are_in_order : Determined 0 order-are-in-order-kinds.ps order-are-in-order-kinds.r order-are-in-order-reads.Asked order-are-in-order-reads.Learnt
order_are_in_order = record { total = λ κs a. tt; one = λ κs a z z' w w' p q. (same p q, refl) }

pub slate_start : Determined 0 slate-start-kinds.ps slate-start-kinds.r slate-start-reads.Asked slate-start-reads.Learnt
slate_start = record { total = λ κs a. tt; one = λ κs a z z' w w' p q. (same p q, refl) }

pub slate_feed : Determined 3 slate-feed-kinds.ps slate-feed-kinds.r slate-feed-reads.Asked slate-feed-reads.Learnt
slate_feed = record { total = λ κs a. tt; one = λ κs a z z' w w' p q. (same p.0 q.0, refl) }

pub slate_feed_after : Determined 4 slate-feed-after-kinds.ps slate-feed-after-kinds.r slate-feed-after-reads.Asked slate-feed-after-reads.Learnt
slate_feed_after = record { total = λ κs a. tt; one = λ κs a z z' w w' p q. (same p.0 q.0, refl) }
