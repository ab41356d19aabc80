-- What Big5 and EUC-KR share: the leads, the held score, the leads that hold.
use Rattle.std.specs.Prelude.{Bool, cond, ◌||◌, ℕ, ◌≤◌, leb, eqb, ℤ, pos, nat_abs, Option, Some, None}
use Rattle.laws.specs.declared.Reason.{Reason}
use Rattle.laws.specs.declared.Reason.TheVariants.{BadByte, BadSecondByte}
use Rattle.octets.specs.Octets.{between, is_problematic_lead}
use Rattle.weights.specs.Weights.{term}
use Rattle.pairs.specs.declared.Decoded.{Decoded}
use Rattle.pairs.specs.declared.Event.{Event}

-- ---- leads
abbrev pub is_lead : ℕ → Bool
is_lead b = between 0x81 0xFE b

abbrev pub is_lead_or_none : ℕ → Bool
is_lead_or_none lead = eqb lead 0 || is_lead lead

abbrev pub decoded : ℕ → Event → Decoded
decoded lead event = record { lead = lead; event = event }

-- why a byte drops a machine out, by the lead before it: with one pending the byte is the second of a pair, ASCII or not
abbrev pub reason_by : ℕ → Reason
reason_by lead = cond (eqb lead 0) BadByte BadSecondByte

-- ---- a held score
-- the previous bytes after which a score is held
abbrev pub is_held_lead : ℕ → Bool
is_held_lead b = is_problematic_lead b

-- what is added to the score where a held score is released
abbrev pub released_of : Option ℤ → ℤ
released_of None = pos 0
released_of (Some s) = s

abbrev pub SmallHeld : Option ℤ → Type 0
SmallHeld h = nat_abs (released_of h) ≤ term

unfoldable pub small_held_b : Option ℤ → Bool
small_held_b h = leb (nat_abs (released_of h)) term
