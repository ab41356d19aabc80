-- What the code's branches need of the definitions.
use Rattle.std.specs.Prelude.{◌≡◌, true, false, List, ◌⊎◌, ℕ, ◌≤◌}
use Rattle.std.proofs.Common.{ap, ◌∙◌}
use Rattle.laws.specs.Lists.{is_in}
use Rattle.pairs.specs.Ranges.{ranges_true}
use Rattle.pairs.specs.Standard.{CodePoints, two, returned}
use Rattle.pairs.specs.Events.{points_as, event_of, malformed_of}
use Rattle.pairs.specs.declared.Event.TheVariants.{Two}
use Rattle.big5_decoder.specs.Standard.{is_trail, pointer_of, points_of, entry_of, pair_of}
use Rattle.big5_decoder.specs.SpecialsLaws.{Special, specials, special_points, other_points}

-- ---- trails
pub trail_cases : (b : ℕ) → is_trail b ≡ true → ((0x40 ≤ b) × (b ≤ 0x7E)) ⊎ ((0xA1 ≤ b) × (b ≤ 0xFE))
trail_cases b e = ranges_true 0x40 0x7E 0xA1 0xFE b e

-- ---- a lead and the byte after it
module _ (index : List ℕ) (lead b : ℕ) where
  pub no_pair : is_trail b ≡ false → malformed_of b ≡ pair_of index lead b
  unfolding pair_of
  no_pair t = rw t

  module _ (at : ℕ) (t : is_trail b ≡ true) (p : at ≡ pointer_of lead b) where
    points_at : (ps : CodePoints) → points_of index at ≡ ps → event_of 2 (returned b ps) ≡ pair_of index lead b
    unfolding pair_of
    points_at ps h = let k : points_of index (pointer_of lead b) ≡ ps = rw p at h in rw (t, k)

    pub pair_two : (k x y : ℕ) → at ≡ k → Special k x y → Two x y ≡ pair_of index lead b
    unfolding returned event_of points_as
    pair_two k x y e s = points_at (two x y) (ap (points_of index) e ∙ special_points index k x y s)

    pub pair_entry : is_in specials at ≡ false → entry_of index at b ≡ pair_of index lead b
    unfolding entry_of
    pair_entry s = points_at _ (other_points index at s)
