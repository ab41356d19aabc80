-- Both ways: the decoder reads a byte sequence as a code point exactly if Yields says so.
use Rattle.std.specs.Prelude.{◌≡◌, Bool, true, false, cond, ℕ, ◌+◌, ◌-◌}
use Rattle.std.proofs.Math.Path.{refl}
use Rattle.std.proofs.Common.{sym, ◌∙◌, arith, ne_eqb}
use mathlib.Core.List.{List, [], ◌∷◌}
use Rattle.laws.specs.Handler.{byte, Result, continue, code_point, error}
use Rattle.octets.specs.Octets.{between}
use Rattle.octets.specs.BetweenLaws.{inside, above, between_low, between_high}
use Rattle.pairs.specs.Ranks.{rank_of}
use Rattle.shift_jis.specs.Standard.{is_lead, is_trail, pointer, is_mapped, first, no_point, pointed, next, handler}
use Rattle.shift_jis.proofs.StandardLaws.{lead_least, first_itself, first_katakana, first_lead, first_bad, pointer_rank, private_lead, private_rank}
use Rattle.shift_jis.specs.Sequences.{is_private_lead, entry_of, Yields, itself, katakana, private_use, mapped, Reads}

private_is_lead : (lead : ℕ) → is_private_lead lead ≡ true → is_lead lead ≡ true
private_is_lead lead p =
    let l = between_low 0xF0 0xF9 lead p in
    let h = between_high 0xF0 0xF9 lead p in
    rw (above 0x81 0x9F lead (omega arith), inside 0xE0 0xFC lead (omega arith) (omega arith))

-- ---- what is no code point
continues : {d p q : ℕ} → ◌≡◌ {A = Result ℕ ℕ} (continue d) (code_point p q) → ⊥
continues e = let z : ◌≡◌ {A = ℕ} 0 1 = cc in omega arith

fails : {restored : List ℕ} {d p q : ℕ} → ◌≡◌ {A = Result ℕ ℕ} (error restored d) (code_point p q) → ⊥
fails e = let z : ◌≡◌ {A = ℕ} 0 1 = cc in omega arith

-- ---- a byte after a lead
module _ (index : List ℕ) (lead b : ℕ) (l : is_lead lead ≡ true) where
  pub after_lead : handler index lead (byte b) ≡ next index lead b
  unfolding handler
  after_lead = rw (ne_eqb lead 0 (λ (z : lead ≡ 0). omega (arith, lead_least lead l)))

  module _ (t : is_trail b ≡ true) where
    next_is : next index lead b ≡ cond (is_private_lead lead) (code_point (0xE000 - 8836 + pointer lead b) 0) (cond (is_mapped (entry_of index lead b)) (code_point (entry_of index lead b) 0) (no_point b))
    unfolding next pointed
    next_is = rw (t, private_lead lead b l t, ← pointer_rank lead b l t)

    pub next_private : is_private_lead lead ≡ true → next index lead b ≡ code_point (0xE000 + rank_of is_private_lead is_trail lead b) 0
    next_private p =
        let n : 0xE000 - 8836 + pointer lead b ≡ 0xE000 + rank_of is_private_lead is_trail lead b = omega (arith, private_rank lead b p t) in
        next_is ∙ rw (p, n)

    pub next_mapped : is_private_lead lead ≡ false → is_mapped (entry_of index lead b) ≡ true → next index lead b ≡ code_point (entry_of index lead b) 0
    next_mapped p m = next_is ∙ rw (p, m)

    pub next_unmapped : is_private_lead lead ≡ false → is_mapped (entry_of index lead b) ≡ false → next index lead b ≡ no_point b
    next_unmapped p m = next_is ∙ rw (p, m)

  pub next_no_trail : is_trail b ≡ false → next index lead b ≡ no_point b
  unfolding next
  next_no_trail t = rw t

-- ---- from Yields to Reads
module _ (index : List ℕ) where
  pub yields_reads : (bs : List ℕ) (p : ℕ) → Yields index bs p → Reads index bs p
  unfolding handler
  yields_reads bs p (itself b e) = first_itself b e
  yields_reads bs p (katakana b k) = first_katakana b k
  yields_reads bs p (private_use lead b q t) =
      let l = private_is_lead lead q in
      (first_lead lead l, after_lead index lead b l ∙ next_private index lead b l t q)
  yields_reads bs p (mapped lead b l q t m) = (first_lead lead l, after_lead index lead b l ∙ next_mapped index lead b l t q m)

  -- ---- and back
  byte_yields : (b p : ℕ) (t u v : Bool) → between 0x00 0x80 b ≡ t → between 0xA1 0xDF b ≡ u → is_lead b ≡ v → first b ≡ code_point p 0 → Yields index (b ∷ []) p
  byte_yields b p true u v e f g r = let q = sym (first_itself b e) ∙ r in let s : b ≡ p = cc in rw (← s) (itself b e)
  byte_yields b p false true v e f g r = let q = sym (first_katakana b f) ∙ r in let s : 0xFF61 + (b - 0xA1) ≡ p = cc in rw (← s) (katakana b f)
  byte_yields b p false false true e f g r = absurd (continues (sym (first_lead b g) ∙ r))
  byte_yields b p false false false e f g r = absurd (fails (sym (first_bad b e f g) ∙ r))

  is_lead_lem : (b : ℕ) (t u v : Bool) → between 0x00 0x80 b ≡ t → between 0xA1 0xDF b ≡ u → is_lead b ≡ v → first b ≡ continue b → is_lead b ≡ true
  is_lead_lem b true u v e f g r = let q = sym (first_itself b e) ∙ r in cc
  is_lead_lem b false true v e f g r = let q = sym (first_katakana b f) ∙ r in cc
  is_lead_lem b false false true e f g r = g
  is_lead_lem b false false false e f g r = let q = sym (first_bad b e f g) ∙ r in cc

  module _ (lead b p : ℕ) (l : is_lead lead ≡ true) (r : next index lead b ≡ code_point p 0) where
    trail_yields : is_trail b ≡ true → (u v : Bool) → is_private_lead lead ≡ u → is_mapped (entry_of index lead b) ≡ v → Yields index (lead ∷ b ∷ []) p
    trail_yields t true v f g =
        let q = sym (next_private index lead b l t f) ∙ r in
        let s : 0xE000 + rank_of is_private_lead is_trail lead b ≡ p = cc in
        rw (← s) (private_use lead b f t)
    trail_yields t false true f g =
        let q = sym (next_mapped index lead b l t f g) ∙ r in
        let s : entry_of index lead b ≡ p = cc in
        rw (← s) (mapped lead b l f t g)
    trail_yields t false false f g = absurd (fails (sym (next_unmapped index lead b l t f g) ∙ r))

    pair_yields : (t : Bool) → is_trail b ≡ t → Yields index (lead ∷ b ∷ []) p
    pair_yields true t = trail_yields t (is_private_lead lead) (is_mapped (entry_of index lead b)) refl refl
    pair_yields false t = absurd (fails (sym (next_no_trail index lead b l t) ∙ r))

  pub reads_yields : (bs : List ℕ) (p : ℕ) → Reads index bs p → Yields index bs p
  unfolding handler
  reads_yields [] p r = absurd r
  reads_yields (b ∷ []) p r = byte_yields b p (between 0x00 0x80 b) (between 0xA1 0xDF b) (is_lead b) refl refl refl r
  reads_yields (lead ∷ b ∷ []) p r =
      let l = is_lead_lem lead (between 0x00 0x80 lead) (between 0xA1 0xDF lead) (is_lead lead) refl refl refl r.0 in
      pair_yields lead b p l (sym (after_lead index lead b l) ∙ r.1) (is_trail b) refl
  reads_yields (a ∷ b ∷ c ∷ bs) p r = absurd r
