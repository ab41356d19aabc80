-- What a single-byte machine answers, over its step, the test of its record,.
use Rattle.std.specs.Prelude.{ℕ, Bool, List, length}
use Rattle.laws.specs.Answer.{Ran, answered, tested}
use Rattle.laws.specs.Run.{Outcome, alive, run, last_at}
use Rattle.single.specs.Class.{space}
use Rattle.single.specs.Fit.{fit_b}
use Rattle.single.specs.Lent.{Lent}

-- the end of the stream is a space
abbrev pub close_by : {S : Type 0} → (Lent → S → ℕ → Outcome S) → Lent → S → Outcome S
close_by step t m = step t m space

module _ {S : Type 0} (step : Lent → S → ℕ → Outcome S) (sound : S → Bool) (t : Lent) (m : S) where
  unfoldable pub ran_by : List ℕ → Ran S
  ran_by xs = tested (fit_b t (sound m) (length xs)) (answered (last_at (step t) (alive m) xs) (run (step t) (alive m) xs))

  -- a run over the space alone
  unfoldable pub closed_by : Ran S
  closed_by = tested (fit_b t (sound m) 0) (answered 0 (close_by step t m))
