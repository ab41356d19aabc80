-- Pair score and adjacency are taken unless this byte and the previous one are both ASCII.
use Rattle.std.specs.Prelude.{ℕ, ◌+◌, ◌*◌, Bool, cond, ◌&&◌, ◌||◌, List, ℤ, pos, ◌+ℤ◌, ◌==◌, slice_index_or}
use Rattle.octets.specs.Octets.{ascii}
use Rattle.weights.specs.Weights.{weight_of, latin_adjacency}
use Rattle.single.specs.Lent.{Lent}
use Rattle.single.specs.Class.{caseless_of, alphabetic_of, latin_letter}

abbrev pub ascii_pair : Bool → ℕ → Bool
ascii_pair prevAscii b = prevAscii && ascii b

-- a Latin letter beside a non-Latin alphabetic class, in either order
unfoldable pub adjacent_of : List ℕ → ℕ → ℕ → Bool
adjacent_of marks previous current =
    (previous == latin_letter && alphabetic_of marks current) || (current == latin_letter && alphabetic_of marks previous)

-- the same, where it is known whether the current class is alphabetic
unfoldable pub beside_of : List ℕ → Bool → ℕ → ℕ → Bool
beside_of marks alphabetic previous current =
    (previous == latin_letter && alphabetic) || (current == latin_letter && alphabetic_of marks previous)

-- entry 128 x current + previous
abbrev pub pair_score : List ℤ → ℕ → ℕ → ℤ
pair_score pairs previous current = slice_index_or pairs (128 * current + previous) (pos 0)

unfoldable pub pair_gain_of : List ℕ → List ℤ → List ℤ → ℕ → ℕ → ℤ
pair_gain_of marks pairs weights previous current =
    cond (adjacent_of marks previous current) (pair_score pairs previous current +ℤ weight_of weights latin_adjacency)
    (pair_score pairs previous current)

unfoldable pub marked_gain_of : List ℕ → List ℤ → List ℤ → Bool → ℕ → ℕ → ℤ
marked_gain_of marks pairs weights alphabetic previous current =
    cond (beside_of marks alphabetic previous current) (pair_score pairs previous current +ℤ weight_of weights latin_adjacency)
    (pair_score pairs previous current)

-- by what byte b of that class changes the score, in each of the four machines, but for the case weight of Arabic-French
abbrev pub gain_by : List ℕ → List ℤ → List ℤ → ℕ → Bool → ℕ → ℕ → ℤ
gain_by marks pairs weights previous prevAscii b current = cond (ascii_pair prevAscii b) (pos 0) (pair_gain_of marks pairs weights previous current)

abbrev pub gain_of : Lent → ℕ → Bool → ℕ → ℤ
gain_of t previous prevAscii b = gain_by t.marks t.pairs t.weights previous prevAscii b (caseless_of t b)
