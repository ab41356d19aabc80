-- The head: what precedes the trigger, which is the first byte that is the escape or non-ASCII.
use Rattle.std.specs.Prelude.{Bool, cond, ◌||◌, List, [], ◌∷◌, ℕ, eqb, length, drop}
use Rattle.laws.specs.Lists.{count}
use Rattle.octets.specs.Octets.{non_ascii}
use Rattle.context.specs.declared.Scanned.{Scanned}
use Rattle.context.specs.declared.Scanned.TheVariants.{Escape, NonAscii, End}

abbrev pub escape : ℕ
escape = 0x1B

abbrev pub is_trigger : ℕ → Bool
is_trigger b = eqb b escape || non_ascii b

unfoldable pub head_of : List ℕ → List ℕ
head_of [] = []
head_of (b ∷ bs) = cond (is_trigger b) [] (b ∷ head_of bs)

-- what a chunk's first byte after the n bytes of its head says
abbrev pub scanned_at : ℕ → List ℕ → Scanned
scanned_at n [] = End
scanned_at n (b ∷ bs) = cond (eqb b escape) (Escape n) (NonAscii n)

-- the trigger and its offset, or the end of the chunk
unfoldable pub scan_of : List ℕ → Scanned
scan_of xs = scanned_at (length (head_of xs)) (drop (length (head_of xs)) xs)

-- how many bytes are at or above 0x80
abbrev pub non_ascii_count : List ℕ → ℕ
non_ascii_count xs = count non_ascii xs
