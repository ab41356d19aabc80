-- What a byte is where lead is 0, and what a pointer is: the pair's rank, that is how many pairs stand before it. So it lies in the
-- index, and no two pairs share one. The pairs of private use are those of ten leads.
use Rattle.std.specs.Prelude.{◌≡◌, refl, Bool, true, ◌||◌, [], ℕ, ◌+◌, ◌-◌, ◌*◌, ◌<◌, ◌≤◌, ltb, leb}
use Rattle.std.proofs.Math.Path.{sym}
use Rattle.std.proofs.Common.{◌∙◌, lt-ltb, le-ltb, ltb-true, ltb-false, leb-true, leb-false, eqb-true}
use Rattle.std.proofs.Math.Bool.{false}
use Rattle.std.proofs.Math.Logic.{⊎_elim}
use native.Mathlib.Omega.{arith}
use Rattle.std.proofs.Math.Dec.{eqb}
use Rattle.std.proofs.lemmas.Bool.{eqb-false}
use Rattle.laws.specs.Lists.{count}
use Rattle.lengths.specs.Lengths.{jis_count}
use Rattle.laws.specs.Handler.{continue, code_point, error}
use Rattle.octets.specs.Octets.{ascii, between}
use Rattle.octets.specs.BetweenLaws.{inside, below, above, between_low, between_high}
use Rattle.pairs.specs.Ranks.{numbers, those, rank_of}
use Rattle.pairs.specs.RanksLaws.{Counted, counts, counted_by, rank_is, below_number, rank_once}
use Rattle.shift_jis.specs.Standard.{is_lead, is_trail, offset, lead_offset, pointer, is_private_use, first}
use Rattle.shift_jis.specs.Ways.{lead_cases, trail_cases}

-- ---- a byte where lead is 0
pub lead_least : (lead : ℕ) → is_lead lead ≡ true → 0x81 ≤ lead
lead_least lead l = ⊎_elim (λ h. h.0) (λ h. omega arith) (lead_cases lead l)

pub up_to_80 : (b : ℕ) → between 0x00 0x80 b ≡ (ascii b || eqb b 0x80)
up_to_80 b = at (ltb b 0x80) (eqb b 0x80) refl refl
  where
    at : (t u : Bool) → ltb b 0x80 ≡ t → eqb b 0x80 ≡ u → between 0x00 0x80 b ≡ (t || u)
    at true u e f = inside 0x00 0x80 b (omega arith) (omega (arith, ltb-true b 0x80 e))
    at false true e f = inside 0x00 0x80 b (omega arith) (omega (arith, eqb-true b 0x80 f))
    at false false e f = above 0x00 0x80 b (omega (arith, ltb-false b 0x80 e, eqb-false b 0x80 f))

module _ (b : ℕ) where
  pub first_itself : between 0x00 0x80 b ≡ true → first b ≡ code_point b 0
  unfolding first
  first_itself e = rw (sym (up_to_80 b) ∙ e)

  pub first_katakana : between 0xA1 0xDF b ≡ true → first b ≡ code_point (0xFF61 + (b - 0xA1)) 0
  unfolding first
  first_katakana k =
      let l = between_low 0xA1 0xDF b k in
      let s : (ascii b || eqb b 0x80) ≡ false = sym (up_to_80 b) ∙ above 0x00 0x80 b (omega arith) in
      let n : 0xFF61 - 0xA1 + b ≡ 0xFF61 + (b - 0xA1) = omega arith in
      rw (s, k, n)

  pub first_lead : is_lead b ≡ true → first b ≡ continue b
  unfolding first
  first_lead l = ⊎_elim (λ h. rest (below 0xA1 0xDF b (omega arith))) (λ h. rest (above 0xA1 0xDF b (omega arith))) (lead_cases b l)
    where
      rest : between 0xA1 0xDF b ≡ false → first b ≡ continue b
      rest k =
          let s : (ascii b || eqb b 0x80) ≡ false = sym (up_to_80 b) ∙ above 0x00 0x80 b (lead_least b l) in
          rw (s, k, l)

  pub first_bad : between 0x00 0x80 b ≡ false → between 0xA1 0xDF b ≡ false → is_lead b ≡ false → first b ≡ error [] 0
  unfolding first
  first_bad e k l =
      let s : (ascii b || eqb b 0x80) ≡ false = sym (up_to_80 b) ∙ e in
      rw (s, k, l)

-- ---- the bytes of a pair
leads : Counted is_lead 60 (λ lead. lead - lead_offset lead)
unfolding count those numbers counts
leads = counted_by is_lead 60 (λ lead. lead - lead_offset lead) (λ lead l. ⊎_elim (λ h. omega arith) (λ h. omega arith) (lead_cases lead l)) refl tt

trails : Counted is_trail 188 (λ b. b - offset b)
unfolding count those numbers counts
trails = counted_by is_trail 188 (λ b. b - offset b) (λ b t. ⊎_elim (λ h. omega arith) (λ h. omega arith) (trail_cases b t)) refl tt

-- ---- offsets, by the two ranges of each
low_lead : (lead : ℕ) → lead ≤ 0x9F → lead_offset lead ≡ 0x81
low_lead lead h = rw (lt-ltb lead 0xA0 (omega arith))

high_lead : (lead : ℕ) → 0xE0 ≤ lead → lead_offset lead ≡ 0xC1
high_lead lead h = rw (le-ltb lead 0xA0 (omega arith))

offset_fits : (b : ℕ) → is_trail b ≡ true → (offset b ≤ b) × (b ≤ offset b + 187)
offset_fits b t =
    ⊎_elim (λ h. rw (lt-ltb b 0x7F (omega arith)) (omega arith, omega arith)) (λ h. rw (le-ltb b 0x7F (omega arith)) (omega arith, omega arith)) (trail_cases b t)

-- ---- pointers: the rank by lead and then by trail, in the index, and no two the same
module _ (lead b : ℕ) (l : is_lead lead ≡ true) (t : is_trail b ≡ true) where
  -- where the lead's row begins, and the trail byte's place in it
  pub pointer_parts : (row column : ℕ) → row ≡ lead - lead_offset lead → column ≡ b - offset b → row * 188 + column ≡ pointer lead b
  pointer_parts row column e f = omega (arith, e, f, offset_fits b t)

  pub pointer_rank : pointer lead b ≡ rank_of is_lead is_trail lead b
  pointer_rank = sym (rank_is leads trails lead b l t ∙ pointer_parts _ _ refl refl)

  pub pointer_below : pointer lead b < jis_count
  pointer_below = below_number leads trails lead b (pointer lead b) l t pointer_rank

pub pointer_once : (lead b lead' b' : ℕ) → is_lead lead ≡ true → is_trail b ≡ true → is_lead lead' ≡ true → is_trail b' ≡ true → pointer lead b ≡ pointer lead' b' → (lead ≡ lead') × (b ≡ b')
pointer_once lead b lead' b' l t l' t' p =
    rank_once is_lead is_trail leads.byte trails.byte lead b lead' b' l t l' t' (sym (pointer_rank lead b l t) ∙ (p ∙ pointer_rank lead' b' l' t'))

-- ---- private use: 47 rows stand before F0's, and 57 before FA's
module _ (lead b : ℕ) (l : is_lead lead ≡ true) (t : is_trail b ≡ true) where
  pub private_lead : is_private_use (pointer lead b) ≡ between 0xF0 0xF9 lead
  private_lead = at (ltb lead 0xF0) (leb lead 0xF9) refl refl
    where
      early : lead < 0xF0 → pointer lead b < 8836
      early h = ⊎_elim (λ c. omega (arith, low_lead lead c.1, offset_fits b t)) (λ c. omega (arith, high_lead lead c.0, offset_fits b t)) (lead_cases lead l)

      at : (u v : Bool) → ltb lead 0xF0 ≡ u → leb lead 0xF9 ≡ v → is_private_use (pointer lead b) ≡ between 0xF0 0xF9 lead
      at true v e f = let h = ltb-true lead 0xF0 e in rw (below 8836 10715 (pointer lead b) (early h), below 0xF0 0xF9 lead h)
      at false true e f =
          let h = ltb-false lead 0xF0 e in
          let k = leb-true lead 0xF9 f in
          let o = high_lead lead (omega arith) in
          rw (inside 8836 10715 (pointer lead b) (omega (arith, o, offset_fits b t)) (omega (arith, o, offset_fits b t)), inside 0xF0 0xF9 lead h k)
      at false false e f =
          let h = ltb-false lead 0xF0 e in
          let k = leb-false lead 0xF9 f in
          let o = high_lead lead (omega arith) in
          rw (above 8836 10715 (pointer lead b) (omega (arith, o, offset_fits b t)), above 0xF0 0xF9 lead k)

-- how many pairs of private use stand before one
privates : Counted (between 0xF0 0xF9) 10 (λ lead. lead - 0xF0)
unfolding count those numbers counts
privates = counted_by (between 0xF0 0xF9) 10 (λ lead. lead - 0xF0) (λ lead p. omega (arith, between_high 0xF0 0xF9 lead p)) refl tt

pub private_rank : (lead b : ℕ) → between 0xF0 0xF9 lead ≡ true → is_trail b ≡ true → pointer lead b ≡ 8836 + rank_of (between 0xF0 0xF9) is_trail lead b
private_rank lead b p t =
    let l = between_low 0xF0 0xF9 lead p in
    omega (arith, rank_is privates trails lead b p t, high_lead lead (omega arith), offset_fits b t)
