-- The number that bytes make, the least first.
use Rattle.std.specs.Prelude.{List, [], ◌∷◌, ℕ, ◌+◌, ◌*◌, take, drop}

unfoldable pub little : List ℕ → ℕ
little [] = 0
little (b ∷ bs) = b + 256 * little bs

-- that of k bytes from a place on; what lies past the end counts nothing
abbrev pub little_at : ℕ → List ℕ → ℕ → ℕ
little_at k xs at = little (take k (drop at xs))
