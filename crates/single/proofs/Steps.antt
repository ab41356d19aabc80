-- The two cases of what the code's step gives, and that it is one thing as the next byte finds it.
use Rattle.std.proofs.Common.{◌≡◌, refl, sym, ◌∙◌, ℕ, ◌+◌, ◌≤◌, List, ℤ, get_or, Option, Some, None}
use Rattle.std.specs.Prelude.{nat_abs}
use Rattle.laws.specs.Run.{Outcome, live, none}
use Rattle.laws.specs.declared.Reason.{Reason}
use Rattle.laws.specs.declared.Reason.TheVariants.{Class255}
use Rattle.weights.specs.Weights.{per_byte}
use Rattle.single.specs.Lent.{Lent}
use Rattle.single.specs.Steps.{Steps}

module _ {S : Type 0} (step : Lent → S → ℕ → Outcome S) (noted : List ℕ → ℕ → S → S) (Rests : Lent → ℕ → S → Type 0) (t : Lent) (xs : List ℕ) (i : ℕ) (m : S) (r : Option (S × ℤ)) (gives : Steps step noted Rests t xs i m r) where
  pub steps_none : r ≡ None → step t (noted xs i m) (get_or xs i 0) ≡ none Class255
  steps_none e = rw e at gives

  pub steps_some : {a : S × ℤ} → r ≡ Some a → (step t (noted xs i m) (get_or xs i 0) ≡ live (noted xs (i + 1) a.0) a.1) × (Rests t (i + 1) a.0 × (nat_abs a.1 ≤ per_byte))
  steps_some e = rw e at gives

-- what a step gives, with the record as `noted` finds it at the next byte
abbrev pub found : {S : Type 0} → (List ℕ → ℕ → S → S) → List ℕ → ℕ → Option (S × ℤ) → Option (S × ℤ)
found noted xs i None = None
found noted xs i (Some a) = Some (noted xs (i + 1) a.0, a.1)

-- two replies that `Steps` admits are found to be the same
module _ {S : Type 0} (step : Lent → S → ℕ → Outcome S) (noted : List ℕ → ℕ → S → S) (Rests : Lent → ℕ → S → Type 0) (t : Lent) (xs : List ℕ) (i : ℕ) (m : S) where
  apart : {n : S} {g : ℤ} {d : Reason} → ◌≡◌ {A = Outcome S} (live n g) (none d) → ⊥
  apart e = cc

  alike : {n k : S} {g h : ℤ} → ◌≡◌ {A = Outcome S} (live n g) (live k h) → ◌≡◌ {A = Option (S × ℤ)} (Some (n, g)) (Some (k, h))
  alike e = cc

  pub steps_one : (r s : Option (S × ℤ)) → Steps step noted Rests t xs i m r → Steps step noted Rests t xs i m s → found noted xs i r ≡ found noted xs i s
  steps_one None None p q = refl
  steps_one None (Some b) p q = absurd (apart (sym q.0 ∙ p))
  steps_one (Some a) None p q = absurd (apart (sym p.0 ∙ q))
  steps_one (Some a) (Some b) p q = alike (sym p.0 ∙ q.0)
