-- What a Big5 record can hold, what a run and a close give, for every record and every lent list.
use Rattle.std.specs.Prelude.{◌≡◌, Bool, true, cond, ◌&&◌, List, ℕ, ◌≤◌, leb, eqb, ℤ, nat_abs, length, Option, Some, None}
use Rattle.laws.specs.Answer.{Ran, answered, tested, Told}
use Rattle.laws.specs.Run.{Outcome, none, live, alive, run, last_at}
use Rattle.laws.specs.declared.Reason.TheVariants.{CutAtClose}
use Rattle.pairs.specs.Pairs.{is_lead_or_none, reason_by, released_of, small_held_b}
use Rattle.laws.specs.Limit.{limit}
use Rattle.weights.specs.Weights.{term}
use Rattle.lengths.specs.Lengths.{weight_count, big5_count}
use Rattle.big5.specs.Scoring.{lent, scale_of, step_of}
use Rattle.big5.specs.declared.Big5.{Big5}
use Rattle.big5.specs.declared.Scale.{Scale}

-- a record that no bound of n bytes excludes; Big5 counts nothing
pub record Sound (n : ℕ) (m : Big5) : Type 0 where
  pub lead_fits : is_lead_or_none m.lead ≡ true
  pub held_small : nat_abs (released_of m.held) ≤ term

unfoldable pub sound_b : ℕ → Big5 → Bool
sound_b n m = is_lead_or_none m.lead && small_held_b m.held

-- weights of 32 bits
pub record SmallScale (w : Scale) : Type 0 where
  pub adjacency : nat_abs w.adjacency ≤ term
  pub punctuation : nat_abs w.punctuation ≤ term
  pub other : nat_abs w.other ≤ term
  pub level1 : nat_abs w.level1 ≤ term
  pub hanzi : nat_abs w.hanzi ≤ term
  pub pua : nat_abs w.pua ≤ term
  pub extension : nat_abs w.extension ≤ term

-- ---- answers
-- of a step as an outcome, by the lead before the byte
abbrev pub out_of : ℕ → Option (Big5 × ℤ) → Outcome Big5
out_of before (Some a) = live a.0 a.1
out_of before None = none (reason_by before)

-- a live answer came of weights of 32 bits
abbrev pub Weighed : List ℤ → Ran Big5 → Type 0
Weighed weights r = Told (λ m s. SmallScale (scale_of weights)) r

-- ---- a run and a close
-- the record is one that Big5 can hold, the part no longer than a stream, the lent lengths exact
unfoldable pub ready_b : List ℕ → List ℤ → Big5 → List ℕ → Bool
ready_b index weights m xs = sound_b limit m && (leb (length xs) limit && (eqb (length index) big5_count && eqb (length weights) weight_count))

pub record Ready (index : List ℕ) (weights : List ℤ) (m : Big5) (xs : List ℕ) : Type 0 where
  pub sound : Sound limit m
  pub short : length xs ≤ limit
  pub index_length : length index ≡ big5_count
  pub weights_length : length weights ≡ weight_count

-- the score starts from 0: what a run gives is its change
unfoldable pub ran_of : List ℕ → List ℤ → Big5 → List ℕ → Ran Big5
ran_of index weights m xs = let step = step_of (lent index (scale_of weights)) in tested (ready_b index weights m xs) (answered (last_at step (alive m) xs) (run step (alive m) xs))

-- the end of the stream: none where a lead is pending, a cut at no byte; a held score counts nothing, and stays
abbrev pub close_of : Big5 → Outcome Big5
close_of m = cond (eqb m.lead 0) (alive m) (none CutAtClose)

unfoldable pub closed_of : Big5 → Ran Big5
closed_of m = tested (sound_b limit m) (answered 0 (close_of m))
