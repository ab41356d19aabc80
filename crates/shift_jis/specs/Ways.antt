-- What the code's branches need of the definitions.
use Rattle.std.specs.Prelude.{◌≡◌, refl, Bool, true, false, ◌⊎◌, ℕ, ◌≤◌, ltb}
use Rattle.std.proofs.Common.{arith, ltb-true, ltb-false, lt-ltb}
use Rattle.pairs.specs.Ranges.{inside, above, up_to, ranges_true}
use Rattle.shift_jis.specs.Standard.{is_lead, is_trail}

pub lead_cases : (lead : ℕ) → is_lead lead ≡ true → ((0x81 ≤ lead) × (lead ≤ 0x9F)) ⊎ ((0xE0 ≤ lead) × (lead ≤ 0xFC))
lead_cases lead e = ranges_true 0x81 0x9F 0xE0 0xFC lead e

pub trail_cases : (b : ℕ) → is_trail b ≡ true → ((0x40 ≤ b) × (b ≤ 0x7E)) ⊎ ((0x80 ≤ b) × (b ≤ 0xFC))
trail_cases b e = ranges_true 0x40 0x7E 0x80 0xFC b e

-- past the first trail byte, and not at the gap
pub trail_rest : (b : ℕ) → 0x40 ≤ b → (b ≡ 0x7F → ⊥) → ltb b 0xFD ≡ is_trail b
trail_rest b p q = at (ltb b 0x7F) refl
  where
    at : (t : Bool) → ltb b 0x7F ≡ t → ltb b 0xFD ≡ is_trail b
    at true e = let h = ltb-true b 0x7F e in rw (lt-ltb b 0xFD (omega arith), inside 0x40 0x7E b p (omega arith))
    at false e = let h = ltb-false b 0x7F e in rw (above 0x40 0x7E b (omega arith)) (up_to 0x80 0xFC b (omega arith))
