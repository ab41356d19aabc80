-- What the code's own functions ask of one another, which no public contract cites: what feeding asks, and how the test of a place
-- goes.
use Rattle.std.specs.Prelude.{ℕ, ◌*◌, ◌≤◌, Bool, false, cond, ◌==◌, nat_le, unsigned_abs, Ok, Err}
use Rattle.laws.specs.Limit.{limit}
use Rattle.weights.specs.Weights.{per_byte}
use Rattle.kinds.specs.Kinds.{place_number}
use Rattle.kinds.specs.Sound.{SoundFor}
use Rattle.tables.specs.Own.{Own, SizedAt}
use Rattle.places.specs.Order.{dropped_b}
use Rattle.places.specs.declared.order.Asked.{Asked}
use Rattle.places.specs.declared.order.Asked.TheVariants as asked
use Rattle.places.specs.declared.place.Place.{Place}
use Rattle.places.specs.Score.{Score}

-- ---- what feeding asks
abbrev pub BoundedScore : ℕ → Score → Type 0
BoundedScore c (Err why) = Unit {0}
BoundedScore c (Ok s) = unsigned_abs s ≤ c

-- a part that is not too long, of a place that no bound of a stream excludes, over tables of exact lengths
pub record FitPart (t : Own) (p : Place) (bytes : ℕ) : Type 0 where
  pub sized : SizedAt (place_number p.machine) t
  pub sound : SoundFor limit limit p.machine
  pub small : BoundedScore (per_byte * limit) p.score
  pub short : bytes ≤ limit

-- ---- the test of a place
abbrev pub asked_if : Bool → Asked → Asked
asked_if b a = cond b a asked.Never

-- what is asked of the record at place k by its score: a fresh one where it is none, for a reason and at a place that it can have;
-- else, once fed, one that no bound excludes, beside a score that no bound excludes, and before that a fresh one beside 0
abbrev pub asked_of : ℕ → ℕ → Bool → Bool → ℕ → Score → Asked
asked_of reach body closed fed k (Err why) = asked_if (dropped_b body closed fed k why.reason why.at) asked.Fresh
asked_of reach body closed fed k (Ok s) = cond fed (asked_if (nat_le (unsigned_abs s) (per_byte * reach)) asked.Sound) (asked_if (unsigned_abs s == 0) asked.Fresh)

-- and what is answered to it: by whether the record is sound, and whether it is fresh
abbrev pub answer_of : Asked → Bool → Bool → Bool
answer_of asked.Sound sound fresh = sound
answer_of asked.Fresh sound fresh = fresh
answer_of asked.Never sound fresh = false
