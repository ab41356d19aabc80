-- Unicode's table of well-formed UTF-8 byte sequences, and what it makes of a list of bytes.
use Rattle.std.specs.Prelude.{◌≡◌, List, [], ◌∷◌, ◌++◌, ◌⊎◌, ℕ, ◌≤◌}

-- a range of bytes, both ends in it
pub record Range : Type 0 where
  pub low : ℕ
  pub high : ℕ

infixl 70 ◌to◌
abbrev pub ◌to◌ : ℕ → ℕ → Range
l to h = record { low = l; high = h }

-- the ranges of a sequence's bytes, first to last
abbrev pub Row : Type 0
Row = List Range

abbrev pub table : List Row
table =
    (0x00 to 0x7F ∷ [])
    ∷ (0xC2 to 0xDF ∷ 0x80 to 0xBF ∷ [])
    ∷ (0xE0 to 0xE0 ∷ 0xA0 to 0xBF ∷ 0x80 to 0xBF ∷ [])
    ∷ (0xE1 to 0xEC ∷ 0x80 to 0xBF ∷ 0x80 to 0xBF ∷ [])
    ∷ (0xED to 0xED ∷ 0x80 to 0x9F ∷ 0x80 to 0xBF ∷ [])
    ∷ (0xEE to 0xEF ∷ 0x80 to 0xBF ∷ 0x80 to 0xBF ∷ [])
    ∷ (0xF0 to 0xF0 ∷ 0x90 to 0xBF ∷ 0x80 to 0xBF ∷ 0x80 to 0xBF ∷ [])
    ∷ (0xF1 to 0xF3 ∷ 0x80 to 0xBF ∷ 0x80 to 0xBF ∷ 0x80 to 0xBF ∷ [])
    ∷ (0xF4 to 0xF4 ∷ 0x80 to 0x8F ∷ 0x80 to 0xBF ∷ 0x80 to 0xBF ∷ [])
    ∷ []

-- as many bytes as the row has ranges, each in its range
abbrev pub Fits : Row → List ℕ → Type 0
Fits [] [] = Unit {0}
Fits [] (b ∷ bs) = ⊥
Fits (r ∷ rs) [] = ⊥
Fits (r ∷ rs) (b ∷ bs) = ((r.low ≤ b) × (b ≤ r.high)) × Fits rs bs

-- the bytes fit one of the rows
abbrev pub FitsOne : List Row → List ℕ → Type 0
FitsOne [] bs = ⊥
FitsOne (row ∷ rows) bs = Fits row bs ⊎ FitsOne rows bs

unfoldable pub WellFormed : List ℕ → Type 0
WellFormed bs = FitsOne table bs

-- well-formed sequences, one after the other, and nothing else
pub data Text : List ℕ → Type 0 where
  empty : Text []
  then : (u : List ℕ) {xs : List ℕ} → WellFormed u → Text xs → Text (u ++ xs)

-- the beginning of a sequence that is cut, which can be as short as no byte: with some more bytes it is well-formed
pub record Cut (bs : List ℕ) : Type 0 where
  pub next : ℕ
  pub others : List ℕ
  pub whole : WellFormed (bs ++ (next ∷ others))

-- whole sequences, and then at most one that is cut
pub record Streams (xs : List ℕ) : Type 0 where
  pub sequences : List ℕ
  pub ending : List ℕ
  pub parts : xs ≡ sequences ++ ending
  pub text : Text sequences
  pub cut : Cut ending
