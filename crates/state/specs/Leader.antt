-- The leader.
use Rattle.std.specs.Prelude.{Option, cond, List, [], ◌∷◌, ℕ, suc, ℤ, Ok, Err}
use Rattle.std.specs.Int.Signed.{lt_z}
use Rattle.places.specs.declared.place.Place.{Place}
use Rattle.state.specs.Hebrew.{named_of}
use Rattle.state.specs.State.{triggered}
use Rattle.std.specs.declared.option.Option.TheVariants as best
use Rattle.state.specs.declared.leader.Leader.{Leader}
use Rattle.state.specs.declared.leader.Leader.TheVariants.{Ascii, None, Place as At}
use Rattle.state.specs.declared.State.{State}
use Rattle.places.specs.Score.{Score}

-- the greatest score so far, and where it stands first
abbrev pub Best : Type 0
Best = Option (ℕ × ℤ)

-- a greater score leads; at a tie the one before
abbrev pub against_best : Best → ℕ → ℤ → Best
against_best best.None k n = best.Some (k, n)
against_best (best.Some (at, most)) k n = cond (lt_z most n) (best.Some (k, n)) (best.Some (at, most))

unfoldable pub better_of : Best → ℕ → Score → Best
better_of b k (Err why) = b
better_of b k (Ok n) = against_best b k n

-- the places from k on
unfoldable pub best_from : Best → ℕ → List Place → Best
best_from b k [] = b
best_from b k (p ∷ ps) = best_from (better_of b k p.score) (suc k) ps

abbrev pub leader_as : List Place → Best → Leader
leader_as ps best.None = None
leader_as ps (best.Some (k, n)) = At (named_of ps k)

-- "ascii" before any trigger, "none" if no place has a score, else the greatest score, the lowest place on ties; between the two
-- orders of Hebrew, if both have scores, more plausible punctuation
unfoldable pub leader_of : State → Leader
leader_of s = cond (triggered s.front) (leader_as s.places (best_from best.None 0 s.places)) Ascii
