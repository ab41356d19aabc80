-- The pairs of a lead and a trail byte, by lead and then by trail, and a pair's rank: how many stand before it.
use Rattle.std.specs.Prelude.{Bool, cond, ◌&&◌, ◌||◌, List, [], ◌∷◌, ◌++◌, map, ℕ, zero, suc, ltb, eqb}
use Rattle.laws.specs.Lists.{count}

-- n numbers, from i on
unfoldable pub numbers : ℕ → ℕ → List ℕ
numbers i zero = []
numbers i (suc n) = i ∷ numbers (suc i) n

-- the elements that pass a test
unfoldable pub those : (ℕ → Bool) → List ℕ → List ℕ
those test [] = []
those test (x ∷ xs) = cond (test x) (x ∷ those test xs) (those test xs)

abbrev pub bytes : (ℕ → Bool) → List ℕ
bytes test = those test (numbers 0 256)

-- each of one list with each of another
unfoldable pub each : List ℕ → List ℕ → List (ℕ × ℕ)
each [] ys = []
each (x ∷ xs) ys = map (λ (y : ℕ). (x, y)) ys ++ each xs ys

-- every lead with every trail byte
abbrev pub pairs_of : (ℕ → Bool) → (ℕ → Bool) → List (ℕ × ℕ)
pairs_of is_lead is_trail = each (bytes is_lead) (bytes is_trail)

-- a pair that stands before that of lead and b: by lead, and then by trail
unfoldable pub before : ℕ → ℕ → ℕ × ℕ → Bool
before lead b p = ltb p.0 lead || (eqb p.0 lead && ltb p.1 b)

abbrev pub rank_of : (ℕ → Bool) → (ℕ → Bool) → ℕ → ℕ → ℕ
rank_of is_lead is_trail lead b = count (before lead b) (pairs_of is_lead is_trail)
