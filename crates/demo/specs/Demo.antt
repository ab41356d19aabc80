-- Document 01's demonstration data.
use Rattle.std.specs.Prelude.{cond, List, [], ◌∷◌, ℕ, zero, suc, ◌+◌, ◌*◌, eqb, ℤ, pos, neg_ℤ, set, replicate}
use Rattle.lengths.specs.Lengths.{class_count, mark_count, pair_count, big5_count, euc_kr_count, jis_count, extra_count, weight_count}
use Rattle.octets.specs.Octets.{between, upper_case, lower_case}
use Rattle.tables.specs.Tables.{Tables, tables}
use Rattle.weights.specs.Weights.{index_of, case, latin_adjacency, big5_pua}

-- f of each of the n numbers from k on
unfoldable pub tabled : (ℕ → ℕ) → ℕ → ℕ → List ℕ
tabled f k zero = []
tabled f k (suc n) = f k ∷ tabled f (suc k) n

-- capitals 0x81, small letters 1, 0xE0..0xFA 2, 0xFF 255, all else 0
abbrev pub class_of : ℕ → ℕ
class_of b = cond (upper_case b) 0x81 (cond (lower_case b) 1 (cond (between 0xE0 0xFA b) 2 (cond (eqb b 0xFF) 255 0)))

unfoldable pub classes : List ℕ
classes = tabled class_of 0 class_count

-- only class 2 is alphabetic
unfoldable pub marks : List ℕ
marks = set (replicate mark_count 0) 2 1

-- 10 for 2 after 2, else 0
unfoldable pub pairs : List ℤ
pairs = set (replicate pair_count (pos 0)) (128 * 2 + 2) (pos 10)

-- an index of n entries that maps nothing
abbrev pub unmapped : ℕ → List ℕ
unmapped n = replicate n 0

unfoldable pub extras : List ℤ
extras = replicate extra_count (pos 0)

abbrev minus : ℕ → ℤ
minus n = neg_ℤ (pos n)

-- case, Latin adjacency and Big5 private use; the rest 0
unfoldable pub weights : List ℤ
weights = set (set (set (replicate weight_count (pos 0)) (index_of case) (minus 3)) (index_of latin_adjacency) (minus 5)) (index_of big5_pua) (minus 7)

-- each of the four single-byte places has the same classes, marks and pair scores
abbrev pub demonstration : Tables
demonstration = tables classes marks pairs classes marks pairs classes marks pairs classes marks pairs (unmapped big5_count) (unmapped euc_kr_count) (unmapped jis_count) extras weights
