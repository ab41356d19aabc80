-- Each public function's contract asks nothing and determines the reply.
use mathlib.Core.Path.{refl}
use Rattle.laws.specs.Determined.{Determined, same}
use Rattle.detector.proofs.feed.feed.Kinds as feed-feed-kinds
use Rattle.detector.proofs.feed.feed.Reads as feed-feed-reads

pub feed_feed : Determined 3 feed-feed-kinds.ps feed-feed-kinds.r feed-feed-reads.Asked feed-feed-reads.Learnt
feed_feed = record { total = λ κs a. tt; one = λ κs a z z' w w' p q. (same p.0 q.0, refl) }
