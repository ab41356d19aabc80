-- What a lead can be, what lead the handler leaves, what a reason can be, and the test of a held score.
use Rattle.std.specs.Prelude.{◌≡◌, refl, Bool, true, false, ◌||◌, ◌⊎◌, ℕ, ◌≤◌, eqb, ℤ, Option}
use Rattle.std.proofs.Math.Bool.{or-true}
use Rattle.std.proofs.Common.{inl, inr, arith, leb-true, le-leb, eqb-true, ne_eqb}
use Rattle.laws.specs.Handler.{byte, Result, vars_of}
use Rattle.laws.specs.Tests.{either, picked}
use Rattle.laws.specs.declared.Reason.{Reason}
use Rattle.laws.specs.declared.Reason.TheVariants.{BadByte, BadSecondByte}
use Rattle.octets.specs.Octets.{ascii}
use Rattle.pairs.specs.Pairs.{is_lead, is_lead_or_none, reason_by, SmallHeld, small_held_b}
use Rattle.pairs.specs.Standard.{CodePoints, null, one, two, Layout, first, returned, handler}
use Rattle.pairs.specs.Ranges.{range_true}

-- ---- what a decoder can hold
pub lead_bounds : (b : ℕ) → is_lead b ≡ true → (0x81 ≤ b) × (b ≤ 0xFE)
lead_bounds b e = range_true 0x81 0xFE b e

pub lead_least : (lead : ℕ) → is_lead_or_none lead ≡ true → (lead ≡ 0 → ⊥) → 0x81 ≤ lead
lead_least lead e h = (lead_bounds lead (rw (ne_eqb lead 0 h) at e)).0

none_or : (lead : ℕ) (t : Bool) → eqb lead 0 ≡ t → (t || is_lead lead) ≡ true → lead ≤ 0xFE
none_or lead true z e = let h = eqb-true lead 0 z in omega arith
none_or lead false z e = (lead_bounds lead e).1

pub lead_most : (lead : ℕ) → is_lead_or_none lead ≡ true → lead ≤ 0xFE
lead_most lead e = none_or lead (eqb lead 0) refl e

-- ---- the lead after a byte
pub returned_lead : (b : ℕ) (ps : CodePoints) → vars_of (returned b ps) ≡ 0
unfolding vars_of returned
returned_lead b null = refl
returned_lead b (one p) = refl
returned_lead b (two p q) = refl

abbrev Holds : Result CodePoints ℕ → Type 0
Holds r = is_lead_or_none (vars_of r) ≡ true

-- the handler leaves a lead that it can hold
pub handler_lead : (e : Layout) (points : ℕ → CodePoints) (lead b : ℕ) → Holds (handler e points lead (byte b))
unfolding first vars_of
handler_lead e points lead b =
    either Holds (eqb lead 0) (λ z. either Holds (ascii b) (λ a. refl) (λ a. either Holds (is_lead b) (λ l. rw (l, or-true)) (λ l. refl))) (λ z. rw (returned_lead b _))

-- ---- a reason
abbrev pub OfPairs : Reason → Type 0
OfPairs d = (d ≡ BadByte) ⊎ (d ≡ BadSecondByte)

pub reason_either : (lead : ℕ) → OfPairs (reason_by lead)
reason_either lead = picked OfPairs (eqb lead 0) (inl refl) (inr refl)

-- ---- a held score's test
pub held_true : (h : Option ℤ) → small_held_b h ≡ true → SmallHeld h
unfolding small_held_b
held_true h e = leb-true _ _ e

pub true_held : (h : Option ℤ) → SmallHeld h → small_held_b h ≡ true
unfolding small_held_b
true_held h p = le-leb _ _ p
