-- What feeding keeps: places in order stay in order.
use Rattle.std.specs.Prelude.{ℕ, ◌+◌, ◌≤◌, Bool, true, false, List, length}
use Rattle.laws.specs.Each.{EachFrom}
use Rattle.laws.specs.Limit.{limit}
use Rattle.tables.specs.Own.{Own, own_of}
use Rattle.tables.specs.Tables.{Tables}
use Rattle.places.specs.Order.{PlaceFor}
use Rattle.places.specs.Place.{feed_of, end_of}
use Rattle.places.specs.declared.place.Place.{Place}

-- a part that makes `body` bytes from the end of the head on: as long as the stream is within the limit
pub record Kept (t : Own) (last : Bool) (body : ℕ) (xs : List ℕ) (p : Place) : Type 0 where
  pub kept : (n b k : ℕ) → n + length xs ≤ limit → b ≤ body → PlaceFor n b false true k p → PlaceFor (n + length xs) body last true k (feed_of t last body xs p)

-- the end of the stream
pub record Ended (t : Own) (body : ℕ) (p : Place) : Type 0 where
  pub kept : (n k : ℕ) → PlaceFor n body false true k p → PlaceFor n body true true k (end_of t body p)

-- what was fed, each place over its own tables, stays in order
abbrev pub AllKept : Tables → Bool → ℕ → List ℕ → List Place → Type 0
AllKept t last body xs ps = EachFrom (λ (k : ℕ) (p : Place). Kept (own_of t k) last body xs p) 0 ps
