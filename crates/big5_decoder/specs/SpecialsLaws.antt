-- The four pointers of Big5 that stand for two code points, and that no other does.
use Rattle.std.specs.Prelude.{◌≡◌, ◌||◌, List, [], ◌∷◌, ℕ, eqb}
use Rattle.std.proofs.Math.Path.{refl}
use Rattle.std.proofs.Math.Bool.{false}
use Rattle.std.proofs.Common.{ne_eqb}
use Rattle.laws.specs.Lists.{any, is_in}
use Rattle.laws.specs.Tests.{neither}
use Rattle.pairs.specs.Standard.{two, indexed}
use Rattle.big5_decoder.specs.Standard.{is_mapped, points_of}

pub data Special : ℕ → ℕ → ℕ → Type 0 where
  at_1133 : Special 1133 0xCA 0x304
  at_1135 : Special 1135 0xCA 0x30C
  at_1164 : Special 1164 0xEA 0x304
  at_1166 : Special 1166 0xEA 0x30C

abbrev pub specials : List ℕ
specials = 1133 ∷ 1135 ∷ 1164 ∷ 1166 ∷ []

pub not_special : (at : ℕ) → (at ≡ 1133 → ⊥) → (at ≡ 1135 → ⊥) → (at ≡ 1164 → ⊥) → (at ≡ 1166 → ⊥) → is_in specials at ≡ false
unfolding any
not_special at p q r s = rw (ne_eqb at 1133 p, ne_eqb at 1135 q, ne_eqb at 1164 r, ne_eqb at 1166 s)

module _ (index : List ℕ) where
  pub special_points : (at p q : ℕ) → Special at p q → points_of index at ≡ two p q
  unfolding points_of
  special_points at p q at_1133 = refl
  special_points at p q at_1135 = refl
  special_points at p q at_1164 = refl
  special_points at p q at_1166 = refl

  pub other_points : (at : ℕ) → is_in specials at ≡ false → points_of index at ≡ indexed is_mapped index at
  unfolding any points_of
  other_points at e =
      let p = neither (eqb at 1133) (eqb at 1135 || (eqb at 1164 || (eqb at 1166 || false))) e in
      let q = neither (eqb at 1135) (eqb at 1164 || (eqb at 1166 || false)) p.1 in
      let r = neither (eqb at 1164) (eqb at 1166 || false) q.1 in
      let s = neither (eqb at 1166) false r.1 in
      rw (p.0, q.0, r.0, s.0)
