-- A place's score; or why it has none, and the place of the byte.
use Rattle.std.specs.Prelude.{ℕ, ℤ, Result, Err}
use Rattle.laws.specs.declared.Reason.{Reason}
use Rattle.places.specs.declared.place.NoScore.{NoScore}

abbrev pub Score : Type 0
Score = Result ℤ NoScore

abbrev pub no_score : Reason → ℕ → Score
no_score d at = Err (record { reason = d; at = at })
