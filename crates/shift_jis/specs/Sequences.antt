-- Which byte sequences Shift_JIS takes for which code point: Yields says it by the bytes and by how many pairs stand before one,
-- Reads by the decoder's results, from where no lead is pending.
use Rattle.std.specs.Prelude.{◌≡◌, Bool, true, false, List, [], ◌∷◌, ◌++◌, ℕ, ◌+◌, ◌-◌, get_or}
use Rattle.laws.specs.Handler.{byte, continue, code_point}
use Rattle.octets.specs.Octets.{between}
use Rattle.pairs.specs.Ranks.{rank_of}
use Rattle.shift_jis.specs.Standard.{is_lead, is_trail, is_mapped, handler}

-- the leads whose pairs are private use
abbrev pub is_private_lead : ℕ → Bool
is_private_lead lead = between 0xF0 0xF9 lead

module _ (index : List ℕ) where
  -- what stands at the pair's rank
  abbrev pub entry_of : ℕ → ℕ → ℕ
  entry_of lead b = get_or index (rank_of is_lead is_trail lead b) 0

  -- private use is numbered from E000 on, by its own pairs
  pub data Yields : List ℕ → ℕ → Type 0 where
    itself : (b : ℕ) → between 0x00 0x80 b ≡ true → Yields (b ∷ []) b
    katakana : (b : ℕ) → between 0xA1 0xDF b ≡ true → Yields (b ∷ []) (0xFF61 + (b - 0xA1))
    private_use : (lead b : ℕ) → is_private_lead lead ≡ true → is_trail b ≡ true → Yields (lead ∷ b ∷ []) (0xE000 + rank_of is_private_lead is_trail lead b)
    mapped : (lead b : ℕ) → is_lead lead ≡ true → is_private_lead lead ≡ false → is_trail b ≡ true → is_mapped (entry_of lead b) ≡ true → Yields (lead ∷ b ∷ []) (entry_of lead b)

  -- the decoder takes in the bytes, all of them, and returns the code point at the last one
  abbrev pub Reads : List ℕ → ℕ → Type 0
  Reads [] p = ⊥
  Reads (b ∷ []) p = handler index 0 (byte b) ≡ code_point p 0
  Reads (lead ∷ b ∷ []) p = (handler index 0 (byte lead) ≡ continue lead) × (handler index lead (byte b) ≡ code_point p 0)
  Reads (a ∷ b ∷ c ∷ bs) p = ⊥

  -- such sequences, one after the other, and nothing else
  pub data Text : List ℕ → Type 0 where
    empty : Text []
    then : (bs : List ℕ) {p : ℕ} {xs : List ℕ} → Yields bs p → Text xs → Text (bs ++ xs)
