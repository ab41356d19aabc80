-- What an EUC-KR record can hold, what a run and a close give, for every record and every lent list.
use Rattle.std.specs.Prelude.{◌≡◌, Bool, true, cond, ◌&&◌, List, ℕ, ◌≤◌, leb, eqb, ℤ, nat_abs, length, Option, Some, None}
use Rattle.laws.specs.Answer.{Ran, answered, tested, Told}
use Rattle.laws.specs.Run.{Outcome, none, live, WhenLive, alive, run, last_at}
use Rattle.laws.specs.declared.Reason.TheVariants.{CutAtClose}
use Rattle.pairs.specs.Pairs.{is_lead_or_none, reason_by, released_of, small_held_b}
use Rattle.laws.specs.Limit.{limit, room}
use Rattle.weights.specs.Weights.{term, per_byte}
use Rattle.lengths.specs.Lengths.{weight_count, euc_kr_count, extra_count}
use Rattle.euckr.specs.Scoring.{lent, scale_of, step_of}
use Rattle.euckr.specs.declared.EucKr.{EucKr}
use Rattle.euckr.specs.declared.Scale.{Scale}

-- a record that no bound of n bytes excludes
pub record Sound (n : ℕ) (m : EucKr) : Type 0 where
  pub lead_fits : is_lead_or_none m.lead ≡ true
  pub word_most : m.current_word_len ≤ n
  pub held_small : nat_abs (released_of m.held) ≤ term

unfoldable pub sound_b : ℕ → EucKr → Bool
sound_b n m = is_lead_or_none m.lead && (leb m.current_word_len n && small_held_b m.held)

-- weights of 32 bits
pub record SmallScale (w : Scale) : Type 0 where
  pub adjacency : nat_abs w.adjacency ≤ term
  pub other : nat_abs w.other ≤ term
  pub hangul : nat_abs w.hangul ≤ term
  pub outer : nat_abs w.outer ≤ term
  pub hanja : nat_abs w.hanja ≤ term
  pub mixed : nat_abs w.mixed ≤ term
  pub pua : nat_abs w.pua ≤ term
  pub mac : nat_abs w.mac ≤ term
  pub extension : nat_abs w.extension ≤ term
  pub long : nat_abs w.long ≤ term

-- ---- answers, as outcomes
-- of a step, by the lead before the byte
abbrev pub out_of : ℕ → Option (EucKr × ℤ) → Outcome EucKr
out_of before (Some a) = live a.0 a.1
out_of before None = none (reason_by before)

-- of a step that stays alive, whatever the lead before the byte
abbrev pub Gives : Option (EucKr × ℤ) → Outcome EucKr → Type 0
Gives r o = (before : ℕ) → out_of before r ≡ o

-- a live outcome's change of the score is at most five terms
abbrev pub Slight : Outcome EucKr → Type 0
Slight o = WhenLive (λ m s. nat_abs s ≤ per_byte) o

-- a live answer came of weights of 32 bits
abbrev pub Weighed : List ℤ → Ran EucKr → Type 0
Weighed weights r = Told (λ m s. SmallScale (scale_of weights)) r

-- ---- a run and a close
abbrev pub lent_b : List ℕ → List ℤ → List ℤ → Bool
lent_b index extras weights = eqb (length index) euc_kr_count && (eqb (length extras) extra_count && eqb (length weights) weight_count)

-- the record is one that EUC-KR can hold, the part no longer than a stream, the lent lengths exact
unfoldable pub ready_b : List ℕ → List ℤ → List ℤ → EucKr → List ℕ → Bool
ready_b index extras weights m xs = sound_b room m && (leb (length xs) limit && lent_b index extras weights)

pub record Ready (index : List ℕ) (extras weights : List ℤ) (m : EucKr) (xs : List ℕ) : Type 0 where
  pub sound : Sound room m
  pub short : length xs ≤ limit
  pub index_length : length index ≡ euc_kr_count
  pub extras_length : length extras ≡ extra_count
  pub weights_length : length weights ≡ weight_count

-- the score starts from 0: what a run gives is its change
unfoldable pub ran_of : List ℕ → List ℤ → List ℤ → EucKr → List ℕ → Ran EucKr
ran_of index extras weights m xs = let step = step_of (lent index extras (scale_of weights)) in tested (ready_b index extras weights m xs) (answered (last_at step (alive m) xs) (run step (alive m) xs))

-- the end of the stream: none where a lead is pending, a cut at no byte; a held score counts nothing, and stays
abbrev pub close_of : EucKr → Outcome EucKr
close_of m = cond (eqb m.lead 0) (alive m) (none CutAtClose)

unfoldable pub closed_of : EucKr → Ran EucKr
closed_of m = tested (sound_b room m) (answered 0 (close_of m))
