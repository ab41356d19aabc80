-- Tables read from little-endian bytes.
use Rattle.std.specs.Prelude.{cond, List, [], ◌∷◌, ℕ, ltb, ℤ, length, get_or, take, drop}
use Rattle.std.specs.Int.{w16, w32}
use Rattle.std.proofs.Common.{to_z}
use Rattle.reader.specs.Little.{little}

-- entries of k bytes each, of which f reads the first; those without bytes stay as they are
unfoldable pub fill : {A : Type 0} → ℕ → (List ℕ → A) → List ℕ → List A → List A
fill k f xs [] = []
fill k f xs (t ∷ ts) = cond (ltb (length xs) k) (t ∷ ts) (f xs ∷ fill k f (drop k xs) ts)

-- the entry at the head of the bytes
abbrev pub octet_at : List ℕ → ℕ
octet_at xs = get_or xs 0 0

abbrev pub half_at : List ℕ → ℤ
half_at xs = to_z w16 (little (take 2 xs))

abbrev pub word_at : List ℕ → ℕ
word_at xs = little (take 4 xs)

abbrev pub signed_word_at : List ℕ → ℤ
signed_word_at xs = to_z w32 (word_at xs)
