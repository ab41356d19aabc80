-- The Encoding Standard's Shift_JIS decoder, in its variable and its order: lead, pointer, offset, lead offset, index. Lead, which
-- lasts from byte to byte, is 0 or the byte that began a pair.
use Rattle.std.specs.Prelude.{Bool, false, cond, ◌||◌, List, [], ◌∷◌, ℕ, ◌+◌, ◌-◌, ◌*◌, ltb, eqb, get_or}
use Rattle.laws.specs.Handler.{Item, end_of_queue, byte, Result, continue, code_point, error, finished}
use Rattle.laws.specs.Validator.{ReachedBy}
use Rattle.octets.specs.Octets.{ascii, between}
use Rattle.entries.specs.Entries as entries

abbrev pub is_lead : ℕ → Bool
is_lead b = between 0x81 0x9F b || between 0xE0 0xFC b

abbrev pub is_trail : ℕ → Bool
is_trail b = between 0x40 0x7E b || between 0x80 0xFC b

abbrev pub offset : ℕ → ℕ
offset b = cond (ltb b 0x7F) 0x40 0x41

abbrev pub lead_offset : ℕ → ℕ
lead_offset lead = cond (ltb lead 0xA0) 0x81 0xC1

-- the pointer that a lead and a trail byte make
abbrev pub pointer : ℕ → ℕ → ℕ
pointer lead b = (lead - lead_offset lead) * 188 + b - offset b

-- the pointers that are private use, whatever the index holds there
abbrev pub is_private_use : ℕ → Bool
is_private_use at = between 8836 10715 at

-- the index has no code points of plane two
abbrev pub is_mapped : ℕ → Bool
is_mapped entry = entries.is_mapped false entry

-- end-of-queue: with lead not 0 it becomes 0, error; else finished
abbrev pub at_end : ℕ → Result ℕ ℕ
at_end lead = cond (eqb lead 0) (finished lead) (error [] 0)

-- lead is 0: ASCII and 80 stand for themselves, A1 to DF for half-width katakana
unfoldable pub first : ℕ → Result ℕ ℕ
first b =
    cond (ascii b || eqb b 0x80) (code_point b 0)
    (cond (between 0xA1 0xDF b) (code_point (0xFF61 - 0xA1 + b) 0)
    (cond (is_lead b) (continue b) (error [] 0)))

-- no code point: the byte is restored if it is ASCII, error
abbrev pub no_point : ℕ → Result ℕ ℕ
no_point b = error (cond (ascii b) (b ∷ []) []) 0

module _ (index : List ℕ) where
  -- at a pointer: private use, or what the index has
  unfoldable pub pointed : ℕ → ℕ → Result ℕ ℕ
  pointed b at =
      cond (is_private_use at) (code_point (0xE000 - 8836 + at) 0)
      (cond (is_mapped (get_or index at 0)) (code_point (get_or index at 0) 0) (no_point b))

  -- lead is not 0, and was set to 0: a trail byte makes a pointer with it
  unfoldable pub next : ℕ → ℕ → Result ℕ ℕ
  next lead b = cond (is_trail b) (pointed b (pointer lead b)) (no_point b)

  unfoldable pub handler : ℕ → Item → Result ℕ ℕ
  handler lead end_of_queue = at_end lead
  handler lead (byte b) = cond (eqb lead 0) (first b) (next lead b)

  -- what the lead can be
  abbrev pub Reached : ℕ → Type 0
  Reached lead = ReachedBy handler 0 lead
