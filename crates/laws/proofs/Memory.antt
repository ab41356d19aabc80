-- What is quiet keeps of a stretch what it keeps of its last two bytes.
use Rattle.std.specs.Prelude.{◌≡◌, Bool, ℕ}
use Rattle.std.proofs.Math.Path.{sym, ap}
use Rattle.std.proofs.Common.{◌∙◌, arith}
use mathlib.Core.List.{List, [], ◌∷◌}
use Rattle.laws.specs.Lists.{last, last_append, last_short}
use Rattle.laws.specs.Run.{Out}
use Rattle.laws.specs.Memory.{Quiet, two_left, seen_after, seen_same}

module _ {D S K : Type 0} {q : ℕ → Bool} {step : S → ℕ → Out D S} {holding : K → S} {seen : K → ℕ → K} (quiet : Quiet q step holding seen) where
  pub seen_last : (k : K) (bs : List ℕ) → seen_after quiet k bs ≡ seen_after quiet k (last 2 bs)
  unfolding seen_after
  seen_last k [] = ap (seen_after quiet k) (sym (last_short 2 [] (omega arith)))
  seen_last k (a ∷ []) = ap (seen_after quiet k) (sym (last_short 2 (a ∷ []) (omega arith)))
  seen_last k (a ∷ b ∷ []) = ap (seen_after quiet k) (sym (last_short 2 (a ∷ b ∷ []) (omega arith)))
  seen_last k (a ∷ b ∷ c ∷ bs) =
      let r = b ∷ c ∷ bs in
      seen_last (seen k a) (b ∷ c ∷ bs) ∙ (seen_same quiet (seen k a) k (last 2 r) (two_left r (omega arith)) ∙ ap (seen_after quiet k) (sym (last_append 2 (a ∷ []) r (omega arith))))
