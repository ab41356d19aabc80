-- The public function's contract asks nothing, and determines what it gives and what the caller's front holds afterwards.
use mathlib.Core.Path.{◌≡◌, refl, ap}
use contract.Lifetimes.{Lfts}
use denote.Triple.Clauses.{Clauses, AtExit}
use denote.Triple.Entry.{Args, Res}
use borrow.Fn.World.{World}
use Rattle.laws.specs.Determined.{Determined, AsksNothing, DeterminedAt, same}
use Rattle.state.specs.declared.front.Front.{Front}
use Rattle.thin.specs.Thin.{thin_of, front_after}
use Rattle.thin.proofs.Lent.{lent, none}
use Rattle.thin.specs.contracts.feed as feed
use Rattle.thin.proofs.feed.Kinds as feed-kinds
use Rattle.thin.proofs.feed.Reads as feed-reads

abbrev clauses : (w : World) → Clauses w.𝓤 feed.ended
clauses w = feed.clauses w.𝓛 w.𝓜.mem w.𝓡.run

abbrev says : (κs : Lfts 4) → Args feed.signature κs → Res feed.signature κs → AtExit feed.ended κs → Type 0
says κs a z e = (z ≡ thin_of (lent κs a) a.0.now a.1.0 a.1.1.0.now a.1.1.1.0) × (e.0.now ≡ front_after (lent κs a) a.0.now a.1.0 a.1.1.0.now a.1.1.1.0)

pub feed_asks : AsksNothing feed.ended clauses
feed_asks = record { asks = λ w κs a g. refl }

pub feed_leaves : DeterminedAt feed.ended clauses says
feed_leaves = record { said = λ w κs a g z e. refl; one = λ κs a z z' w w' p q. (same p.0 q.0, ap (λ (f : Front). (f, none κs a)) (same p.1 q.1)) }

-- The same over the readings of the contract that the check makes.
pub feed_feed : Determined 4 feed-kinds.ps feed-kinds.r feed-reads.Asked feed-reads.Learnt
feed_feed = record { total = λ κs a. tt; one = λ κs a z z' w w' p q. (same p.0 q.0, ap (λ (f : Front). (f, none κs a)) (same p.1 q.1)) }
