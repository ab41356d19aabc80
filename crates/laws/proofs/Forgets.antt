-- What is quiet forgets.
use Rattle.std.specs.Prelude.{Bool, ℕ, ◌-◌, length}
use Rattle.std.proofs.Math.Path.{sym, ap}
use Rattle.std.proofs.Common.{◌∙◌}
use Rattle.laws.specs.Lists.{last}
use Rattle.laws.specs.Run.{Out, live}
use Rattle.laws.specs.Memory.{Forgets, Quiet, all_drop, seen_after, quiet_run}
use Rattle.laws.proofs.Memory.{seen_last}

module _ {D S K : Type 0} {q : ℕ → Bool} {step : S → ℕ → Out D S} {holding : K → S} {seen : K → ℕ → K} (quiet : Quiet q step holding seen) where
  pub forgets : (k : K) → Forgets q step (holding k)
  unfolding last
  forgets k =
      record {
        last_two = λ s bs e. quiet_run quiet k s bs e ∙ (ap (λ (l : K). live (holding l) s) (seen_last quiet k bs) ∙ sym (quiet_run quiet k s (last 2 bs) (all_drop q (length bs - 2) bs e)));
        lives = λ bs e. (holding (seen_after quiet k bs), λ s. quiet_run quiet k s bs e);
      }
