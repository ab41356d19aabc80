-- What a caller that has tested uses of a single-byte machine's answers, and what the code shows.
use Rattle.std.specs.Prelude.{◌≡◌, ℕ, Bool, true, false, List, [], ◌∷◌, length, Err}
use Rattle.laws.specs.Answer.{answered, if_fit, if_unfit}
use Rattle.laws.specs.Run.{Outcome, alive, run, run_one, ends_at, last_at, takes}
use Rattle.laws.specs.declared.Stop.TheVariants.{Unfit}
use Rattle.single.specs.Answers.{close_by, ran_by, closed_by}
use Rattle.single.specs.Class.{space}
use Rattle.single.specs.Fit.{Fit, fit_b}
use Rattle.single.specs.FitLaws.{true_fit}
use Rattle.single.specs.Lent.{Lent}

module _ {S : Type 0} (step : Lent → S → ℕ → Outcome S) (sound : S → Bool) (t : Lent) (m : S) where
  module _ (xs : List ℕ) where
    pub ran_if_fit : fit_b t (sound m) (length xs) ≡ true → ran_by step sound t m xs ≡ answered (last_at (step t) (alive m) xs) (run (step t) (alive m) xs)
    unfolding ran_by
    ran_if_fit e = if_fit _ _ e

    pub ran_if_unfit : fit_b t (sound m) (length xs) ≡ false → ran_by step sound t m xs ≡ Err Unfit
    unfolding ran_by
    ran_if_unfit e = if_unfit _ _ e

  -- the code closes by a run over a space
  pub ran_space : ran_by step sound t m (space ∷ []) ≡ closed_by step sound t m
  unfolding ran_by closed_by fit_b ends_at takes
  ran_space = rw (run_one (step t) m space)

  -- the test decides whether the record is sound
  module _ {Sound : Type 0} (tested : Sound → sound m ≡ true) where
    pub fit_ran : (xs : List ℕ) → Fit t Sound (length xs) → ran_by step sound t m xs ≡ answered (last_at (step t) (alive m) xs) (run (step t) (alive m) xs)
    fit_ran xs o = ran_if_fit xs (true_fit t Sound (sound m) (length xs) tested o)

    pub fit_closed : Fit t Sound 0 → closed_by step sound t m ≡ answered 0 (close_by step t m)
    unfolding closed_by
    fit_closed o = if_fit _ _ (true_fit t Sound (sound m) 0 tested o)
