-- What it is to lead, without the walk that finds the leader. A place has the greatest score: no place has a greater one, and each
-- place before it has a lesser one or none. It leads, unless it is one of the two orders of Hebrew and both have scores: then the
-- one with more plausible punctuation leads.
use Rattle.std.specs.Prelude.{◌≡◌, true, false, List, ◌⊎◌, ℕ, ◌<◌, ◌≤◌, ℤ, length, get_or, Ok, Err}
use Rattle.std.specs.Int.Signed.{lt_z}
use Rattle.places.specs.declared.place.Place.{Place}
use Rattle.places.specs.Slate.{place_at}
use Rattle.state.specs.Hebrew.{logical, visual, plausible_punctuation}
use Rattle.state.specs.State.{triggered}
use Rattle.state.specs.declared.leader.Leader.{Leader}
use Rattle.state.specs.declared.leader.Leader.TheVariants.{Ascii, None, Place as At}
use Rattle.state.specs.declared.State.{State}
use Rattle.places.specs.Score.{Score}

-- none, or no greater than n; none, or less than n
abbrev pub AtMost : ℤ → Score → Type 0
AtMost n (Err why) = Unit {0}
AtMost n (Ok m) = lt_z n m ≡ false

abbrev pub Below : ℤ → Score → Type 0
Below n (Err why) = Unit {0}
Below n (Ok m) = lt_z m n ≡ true

-- P of the score of each place below k
abbrev pub EachBelow : (Score → Type 0) → ℕ → List Place → Type 0
EachBelow P k ps = (j : ℕ) (d : Place) → j < k → P (get_or ps j d).score

-- ---- the greatest score, the lowest place on ties
pub record Greatest (ps : List Place) (k : ℕ) (n : ℤ) : Type 0 where
  pub within : k < length ps
  pub there : (d : Place) → (get_or ps k d).score ≡ Ok n
  pub greatest : EachBelow (AtMost n) (length ps) ps
  pub lowest : EachBelow (Below n) k ps

abbrev pub Dropped : Score → Type 0
Dropped (Err why) = Unit {0}
Dropped (Ok n) = ⊥

abbrev pub Scoreless : List Place → Type 0
Scoreless ps = EachBelow Dropped (length ps) ps

-- ---- the two orders of Hebrew
abbrev pub HasScore : List Place → ℕ → Type 0
HasScore ps k = Dropped (place_at k ps).score → ⊥

-- place j, which has the greatest score, is one of the two, and both have scores
pub record Contested (ps : List Place) (j : ℕ) : Type 0 where
  pub hebrew : (j ≡ logical) ⊎ (j ≡ visual)
  pub logical_live : HasScore ps logical
  pub visual_live : HasScore ps visual

abbrev pub counted : List Place → ℕ → ℕ
counted ps k = plausible_punctuation (place_at k ps).machine

-- logical, where visual has counted no more plausible punctuation; visual, where it has counted more
abbrev pub Punctuated : List Place → ℕ → Type 0
Punctuated ps k = ((k ≡ logical) × (counted ps visual ≤ counted ps logical)) ⊎ ((k ≡ visual) × (counted ps logical < counted ps visual))

-- k is named where j has the greatest score
pub record Named (ps : List Place) (j k : ℕ) : Type 0 where
  pub settled : Contested ps j → Punctuated ps k
  pub kept : (Contested ps j → ⊥) → k ≡ j

-- ---- the leader
pub record Leads (ps : List Place) (k : ℕ) : Type 0 where
  pub at : ℕ
  pub most : ℤ
  pub greatest : Greatest ps at most
  pub named : Named ps at k

-- "ascii" before any trigger; after one "none" where no place has a score, else the place that leads
abbrev pub LeaderFor : State → Leader → Type 0
LeaderFor s Ascii = triggered s.front ≡ false
LeaderFor s None = (triggered s.front ≡ true) × Scoreless s.places
LeaderFor s (At k) = (triggered s.front ≡ true) × Leads s.places k
