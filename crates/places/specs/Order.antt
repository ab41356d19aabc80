-- Which places a state in order can hold: after n bytes, `body` of them from the end of the head on, the stream closed or not, the
-- places fed already or not.
use Rattle.std.specs.Prelude.{◌≡◌, ℕ, ◌+◌, ◌*◌, ◌≤◌, Bool, true, false, cond, not, ◌&&◌, ◌||◌, List, pos, ◌==◌, nat_le, unsigned_abs, Ok, Err}
use Rattle.laws.specs.Each.{each_b, EachFrom}
use Rattle.laws.specs.Limit.{limit}
use Rattle.laws.specs.declared.Reason.{Reason}
use Rattle.laws.specs.declared.Reason.TheVariants.{Class255, BadByte, BadSecondByte, BrokenEscape, CutAtClose, NotInSlate}
use Rattle.weights.specs.Weights.{per_byte}
use Rattle.records.specs.Fresh.{fresh_b}
use Rattle.kinds.specs.Kinds.{place_number, is_single, fresh_of}
use Rattle.kinds.specs.Sound.{reach_of, SoundFor, sound_b}
use Rattle.kinds.specs.declared.machine.Machine.{Machine}
use Rattle.places.specs.declared.place.Place.{Place}
use Rattle.places.specs.Score.{Score}

-- ---- one place
-- so many bytes, and where the stream is closed one more, the closing space
abbrev pub spaced_of : ℕ → Bool → ℕ
spaced_of n closed = cond closed (n + 1) n

-- what a place without a score can carry: a reason that its kind can give, before any trigger only 'not in the slate', and the
-- place of a byte that has come; a cut only where the stream is closed, and at its end
unfoldable pub dropped_b : ℕ → Bool → Bool → ℕ → Reason → ℕ → Bool
dropped_b body closed fed k Class255 at = fed && (is_single k && nat_le at (spaced_of body closed))
dropped_b body closed fed k BadByte at = fed && (not (is_single k) && nat_le at body)
dropped_b body closed fed k BadSecondByte at = fed && ((k == 2 || k == 3) && nat_le at body)
dropped_b body closed fed k BrokenEscape at = fed && (k == 1 && nat_le at body)
dropped_b body closed fed k CutAtClose at = fed && (not (is_single k) && (closed && at == body))
dropped_b body closed fed k NotInSlate at = at == 0

-- fresh where the score is none; else a score that no bound of so many bytes excludes
module _ (reach body : ℕ) (closed fed : Bool) (k : ℕ) (m : Machine) where
  abbrev pub ScoredFor : Score → Type 0
  ScoredFor (Err why) = (m ≡ fresh_of m) × (dropped_b body closed fed k why.reason why.at ≡ true)
  ScoredFor (Ok s) = unsigned_abs s ≤ per_byte * reach

  unfoldable pub scored_b : Score → Bool
  scored_b (Err why) = fresh_b m && dropped_b body closed fed k why.reason why.at
  scored_b (Ok s) = nat_le (unsigned_abs s) (per_byte * reach)

abbrev pub ZeroOrNone : Score → Type 0
ZeroOrNone (Err why) = Unit {0}
ZeroOrNone (Ok s) = s ≡ pos 0

-- until a trigger is met, every place is fresh and its score 0 or none
abbrev pub FedOr : Bool → Place → Type 0
FedOr true p = Unit {0}
FedOr false p = (p.machine ≡ fresh_of p.machine) × ZeroOrNone p.score

pub record PlaceFor (n body : ℕ) (closed fed : Bool) (k : ℕ) (p : Place) : Type 0 where
  pub kind : place_number p.machine ≡ k
  pub sound : SoundFor n (reach_of p.machine n closed) p.machine
  pub scored : ScoredFor (reach_of p.machine n closed) body closed fed k p.machine p.score
  pub fed_or : FedOr fed p

-- ---- all places
pub record SlateFor (n body : ℕ) (closed fed : Bool) (ps : List Place) : Type 0 where
  pub most : n ≤ limit
  pub each : EachFrom (PlaceFor n body closed fed) 0 ps

-- ---- the test
unfoldable pub zero_or_none_b : Score → Bool
zero_or_none_b (Err why) = true
zero_or_none_b (Ok s) = unsigned_abs s == 0

unfoldable pub unfed_b : Place → Bool
unfed_b p = fresh_b p.machine && zero_or_none_b p.score

unfoldable pub place_b : ℕ → ℕ → Bool → Bool → ℕ → Place → Bool
place_b n body closed fed k p =
    let reach = reach_of p.machine n closed in
    (place_number p.machine == k) && (sound_b n reach p.machine && (scored_b reach body closed fed k p.machine p.score && (fed || unfed_b p)))

unfoldable pub slate_b : ℕ → ℕ → Bool → Bool → List Place → Bool
slate_b n body closed fed ps = nat_le n limit && each_b (place_b n body closed fed) 0 ps
