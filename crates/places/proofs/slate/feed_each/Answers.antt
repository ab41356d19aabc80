-- `feed_each` meets its contract.
use Rattle.std.proofs.Common.{List, [], ◌∷◌, ◌≡◌, rules}
use Rattle.tables.specs.Lists.{lists}
use Rattle.places.specs.Fed.{fed_each, AllKnown}
use Rattle.places.specs.FedLaws.{fed_listed}
use Rattle.places.specs.Slate.{nowhere}
use Rattle.places.specs.declared.place.Place.{Place}
use Rattle.places.proofs.slate.feed_each.Goals as goal

module _ (c : goal.After-feed-9) where
  abbrev fed : List Place
  fed = c.feed.result ∷ c.feed-2.result ∷ c.feed-3.result ∷ c.feed-4.result ∷ c.feed-5.result ∷ c.feed-6.result ∷ c.feed-7.result ∷ c.feed-8.result ∷ c.feed-9.result ∷ []

  all : (fed ≡ fed_each (lists c.args.tables.now) c.args.body c.args.part.now c.args.places) × AllKnown (lists c.args.tables.now) c.args.part.now c.args.places
  all = fed_listed (lists c.args.tables.now) c.args.body c.args.places nowhere (search rules) c.args.part.now fed ((c.feed.ensures.value, c.feed.ensures.known_fed), ((c.feed-2.ensures.value, c.feed-2.ensures.known_fed), ((c.feed-3.ensures.value, c.feed-3.ensures.known_fed), ((c.feed-4.ensures.value, c.feed-4.ensures.known_fed), ((c.feed-5.ensures.value, c.feed-5.ensures.known_fed), ((c.feed-6.ensures.value, c.feed-6.ensures.known_fed), ((c.feed-7.ensures.value, c.feed-7.ensures.known_fed), ((c.feed-8.ensures.value, c.feed-8.ensures.known_fed), ((c.feed-9.ensures.value, c.feed-9.ensures.known_fed), tt)))))))))

pub returns-clause-value : goal.returns-clause-value
returns-clause-value c = (all c).0

pub returns-clause-all_known : goal.returns-clause-all_known
returns-clause-all_known c = (all c).1
