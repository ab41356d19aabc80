-- What is seen of one byte: where no lead is pending, and after one.
use Rattle.std.specs.Prelude.{◌≡◌, true, false, ℕ, ◌-◌, eqb}
use Rattle.std.proofs.Common.{arith, ne_eqb, le-ltb}
use Rattle.laws.specs.Handler.{vars_of}
use Rattle.octets.specs.Octets.{ascii}
use Rattle.pairs.specs.Pairs.{is_lead, decoded}
use Rattle.pairs.specs.PairsLaws.{lead_bounds, returned_lead}
use Rattle.pairs.specs.Standard.{CodePoints, Layout, first, next}
use Rattle.pairs.specs.Events.{points_as, event_of, seen_by, first_of}
use Rattle.pairs.specs.declared.Event.TheVariants.{Pending, Point, Error}

-- ---- a byte where no lead is pending
lead_no_ascii : (b : ℕ) → is_lead b ≡ true → ascii b ≡ false
lead_no_ascii b e = let h = lead_bounds b e in le-ltb b 0x80 (omega arith)

pub first_lead : (b : ℕ) → is_lead b ≡ true → first_of b ≡ decoded b Pending
unfolding first vars_of event_of
first_lead b e = rw (lead_no_ascii b e, e)

pub first_ascii : (b : ℕ) → ascii b ≡ true → first_of b ≡ decoded 0 (Point b)
unfolding first vars_of event_of points_as
first_ascii b e = rw e

pub first_lone : (b : ℕ) → ascii b ≡ false → is_lead b ≡ false → first_of b ≡ decoded 0 (Error 1)
unfolding first vars_of event_of
first_lone b e f = rw (e, f)

-- ---- a byte after a lead
pub lead_not_zero : (lead : ℕ) → is_lead lead ≡ true → eqb lead 0 ≡ false
lead_not_zero lead e = let h = lead_bounds lead e in ne_eqb lead 0 (λ z. omega arith)

pub pair_seen : (e : Layout) (points : ℕ → CodePoints) (lead b : ℕ) → is_lead lead ≡ true → seen_by e points lead b ≡ decoded 0 (event_of 2 (next e points lead b))
pair_seen e points lead b l = rw (lead_not_zero lead l, returned_lead b _)
