-- What the run over a part asks of a single-byte machine, whose code finds the flags of the byte before in the part.
use Rattle.std.specs.Prelude.{◌≡◌, ℕ, ◌+◌, ◌≤◌, Bool, true, List, ℤ, nat_abs, get_or, Option, Some, None}
use Rattle.laws.specs.Run.{Outcome, live, none}
use Rattle.laws.specs.declared.Reason.TheVariants.{Class255}
use Rattle.weights.specs.Weights.{per_byte}
use Rattle.single.specs.Lent.{Lent}

-- what the code's step gives of byte i: what the machine's step says of the record there, which is what the step before has left
-- with its flags noted from the part
abbrev pub Steps : {S : Type 0} → (Lent → S → ℕ → Outcome S) → (List ℕ → ℕ → S → S) → (Lent → ℕ → S → Type 0) → Lent → List ℕ → ℕ → S → Option (S × ℤ) → Type 0
Steps step noted Rests t xs i m None = step t (noted xs i m) (get_or xs i 0) ≡ none Class255
Steps step noted Rests t xs i m (Some a) =
    (step t (noted xs i m) (get_or xs i 0) ≡ live (noted xs (i + 1) a.0) a.1) × (Rests t (i + 1) a.0 × (nat_abs a.1 ≤ per_byte))

-- a step lengthens no count by more than one, more bytes exclude less, and the test decides
pub record IsSound {S : Type 0} (step : Lent → S → ℕ → Outcome S) (Sound : ℕ → S → Type 0) (sound_b : ℕ → S → Bool) : Type 0 where
  pub next : (t : Lent) (m : S) (b k : ℕ) (n : S) (g : ℤ) → Sound k m → step t m b ≡ live n g → Sound (k + 1) n
  pub more : (k n : ℕ) (m : S) → k ≤ n → Sound k m → Sound n m
  pub tested : (n : ℕ) (m : S) → sound_b n m ≡ true → Sound n m
  pub holds : (n : ℕ) (m : S) → Sound n m → sound_b n m ≡ true

-- at a part's start the record is as it stands
pub record Starts {S : Type 0} (noted : List ℕ → ℕ → S → S) (Rests : Lent → ℕ → S → Type 0) : Type 0 where
  pub same : (xs : List ℕ) (m : S) → noted xs 0 m ≡ m
  pub rests : (t : Lent) (m : S) → Rests t 0 m
