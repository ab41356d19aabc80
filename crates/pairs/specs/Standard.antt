-- The Encoding Standard's Big5 and EUC-KR decoders, in its variables and its order: lead, pointer, offset, index. The two
-- differ in how they lay out their pairs and in what a pointer stands for. Lead, which lasts from byte to byte, is 0 or the
-- byte that began a pair.
use Rattle.std.specs.Prelude.{Bool, cond, List, [], ◌∷◌, ℕ, ◌+◌, ◌-◌, ◌*◌, eqb, get_or}
use Rattle.laws.specs.Handler.{Item, end_of_queue, byte, Result, continue, code_point, error, finished}
use Rattle.octets.specs.Octets.{ascii}
use Rattle.pairs.specs.Pairs.{is_lead}

-- what a pointer stands for: null, a code point, or two
pub data CodePoints : Type 0 where
  null : CodePoints
  one : ℕ → CodePoints
  two : ℕ → ℕ → CodePoints

-- how an encoding lays out its pairs: its trail bytes, the offset of each, and how many pairs a lead has
pub record Layout : Type 0 where
  pub is_trail_lem : ℕ → Bool
  pub offset : ℕ → ℕ
  pub row : ℕ

abbrev pub pointer : Layout → ℕ → ℕ → ℕ
pointer e lead b = (lead - 0x81) * e.row + (b - e.offset b)

-- the index's code point at a pointer, or null
unfoldable pub indexed : (ℕ → Bool) → List ℕ → ℕ → CodePoints
indexed is_mapped index at = cond (is_mapped (get_or index at 0)) (one (get_or index at 0)) null

-- end-of-queue: with lead not 0 it becomes 0, error; else finished
abbrev pub at_end : ℕ → Result CodePoints ℕ
at_end lead = cond (eqb lead 0) (finished lead) (error [] 0)

-- lead is 0, based on byte
unfoldable pub first : ℕ → Result CodePoints ℕ
first b = cond (ascii b) (code_point (one b) 0) (cond (is_lead b) (continue b) (error [] 0))

-- lead is not 0, and was set to 0. Code points are returned; null: the byte is restored if it is ASCII, error
unfoldable pub returned : ℕ → CodePoints → Result CodePoints ℕ
returned b null = error (cond (ascii b) (b ∷ []) []) 0
returned b (one p) = code_point (one p) 0
returned b (two p q) = code_point (two p q) 0

-- points: what the encoding's pointers stand for
module _ (e : Layout) (points : ℕ → CodePoints) where
  -- a trail byte makes a pointer with the lead
  abbrev pub next : ℕ → ℕ → Result CodePoints ℕ
  next lead b = returned b (cond (e.is_trail_lem b) (points (pointer e lead b)) null)

  abbrev pub handler : ℕ → Item → Result CodePoints ℕ
  handler lead end_of_queue = at_end lead
  handler lead (byte b) = cond (eqb lead 0) (first b) (next lead b)
