-- `end_each` meets its contract.
use Rattle.std.proofs.Common.{List, [], ◌∷◌, ◌≡◌, rules}
use Rattle.tables.specs.Lists.{lists}
use Rattle.places.specs.Fed.{ended_each, EndKnown}
use Rattle.places.specs.FedLaws.{end_listed}
use Rattle.places.specs.Slate.{nowhere}
use Rattle.places.specs.declared.place.Place.{Place}
use Rattle.places.proofs.slate.end_each.Goals as goal

module _ (c : goal.After-end-9) where
  abbrev ended : List Place
  ended = c.end.result ∷ c.end-2.result ∷ c.end-3.result ∷ c.end-4.result ∷ c.end-5.result ∷ c.end-6.result ∷ c.end-7.result ∷ c.end-8.result ∷ c.end-9.result ∷ []

  all : (ended ≡ ended_each (lists c.args.tables.now) c.args.body c.args.places) × EndKnown (lists c.args.tables.now) c.args.places
  all = end_listed (lists c.args.tables.now) c.args.body c.args.places nowhere (search rules) ended ((c.end.ensures.value, c.end.ensures.known_end), ((c.end-2.ensures.value, c.end-2.ensures.known_end), ((c.end-3.ensures.value, c.end-3.ensures.known_end), ((c.end-4.ensures.value, c.end-4.ensures.known_end), ((c.end-5.ensures.value, c.end-5.ensures.known_end), ((c.end-6.ensures.value, c.end-6.ensures.known_end), ((c.end-7.ensures.value, c.end-7.ensures.known_end), ((c.end-8.ensures.value, c.end-8.ensures.known_end), ((c.end-9.ensures.value, c.end-9.ensures.known_end), tt)))))))))

pub returns-clause-value : goal.returns-clause-value
returns-clause-value c = (all c).0

pub returns-clause-end_known : goal.returns-clause-end_known
returns-clause-end_known c = (all c).1
