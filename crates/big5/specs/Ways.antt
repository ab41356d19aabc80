-- What the code's branches need of the definitions: sizes, and sums as the code makes them.
use Rattle.std.specs.Prelude.{◌≡◌, refl, Bool, true, false, ◌&&◌, ◌⊎◌, ℕ, ◌<◌, ◌≤◌, eqb, ℤ, ◌+ℤ◌, None}
use Rattle.std.proofs.Common.{sym, ap, ◌∙◌, inl, inr, arith, SFits}
use Rattle.std.proofs.Math.IntN.{nat_abs}
use borrow.Author.Tests.{eq-eqb, ne_eqb, lt-ltb, le-ltb}
use Rattle.std.specs.Int.{w64}
use Rattle.laws.specs.Tests.{picked}
use Rattle.laws.specs.Run.{none}
use Rattle.octets.specs.Octets.{between}
use Rattle.pairs.specs.Pairs.{reason_by, released_of, SmallHeld}
use Rattle.pairs.specs.Sums.{kept, sum_fits, sum_read, sum3_fits, sum3_read}
use Rattle.pairs.specs.declared.Decoded.{Decoded}
use Rattle.pairs.specs.declared.Event.{Event}
use Rattle.weights.specs.Weights.{term}
use Rattle.big5_decoder.specs.Standard.{decode_of}
use Rattle.big5.specs.Scoring.{beside_of, hanzi_weight, scored, extension_of, is_extension, extends, after_byte, stray_of, on_event, Lent, step_of}
use Rattle.big5.specs.Big5.{SmallScale}
use Rattle.big5.specs.declared.Big5.{Big5}
use Rattle.big5.specs.declared.LatinCj.{LatinCj}
use Rattle.big5.specs.declared.LatinCj.TheVariants.{AsciiLetter, Cj, Other}
use Rattle.big5.specs.declared.Scale.{Scale}

-- ---- sizes
module _ (w : Scale) (small : SmallScale w) where
  pub beside_small : (prev : LatinCj) → nat_abs (beside_of w prev) ≤ term
  beside_small AsciiLetter = small.adjacency
  beside_small Cj = omega arith
  beside_small Other = omega arith

  pub hanzi_small : (byte : ℕ) → nat_abs (hanzi_weight w byte) ≤ term
  unfolding hanzi_weight
  hanzi_small byte = picked (λ z. nat_abs z ≤ term) (between 0xA4 0xC6 byte) small.level1 small.hanzi

  -- ---- a Hanzi's sums, and those of an unmapped pair
  module _ (m : Big5) (held : SmallHeld m.held) where
    pub base_fits : SFits w64 (kept (released_of m.held) +ℤ kept (beside_of w m.prev))
    base_fits = sum_fits (released_of m.held) (beside_of w m.prev) term term held (beside_small m.prev) (omega arith)

    pub base_read : kept (kept (released_of m.held) +ℤ kept (beside_of w m.prev)) ≡ released_of m.held +ℤ beside_of w m.prev
    base_read = sum_read (released_of m.held) (beside_of w m.prev) term term held (beside_small m.prev) (omega arith)

    module _ (own : ℤ) (little : nat_abs own ≤ term) where
      pub hanzi_fits : SFits w64 (kept (kept (released_of m.held) +ℤ kept (beside_of w m.prev)) +ℤ kept own)
      hanzi_fits = sum3_fits (released_of m.held) (beside_of w m.prev) own term term term held (beside_small m.prev) little (omega arith)

      pub hanzi_read : kept (kept (kept (released_of m.held) +ℤ kept (beside_of w m.prev)) +ℤ kept own) ≡ released_of m.held +ℤ beside_of w m.prev +ℤ own
      hanzi_read = sum3_read (released_of m.held) (beside_of w m.prev) own term term term held (beside_small m.prev) little (omega arith)

    pub unmapped_fits : SFits w64 (kept (kept (released_of m.held) +ℤ kept w.pua) +ℤ kept (beside_of w m.prev))
    unmapped_fits = sum3_fits (released_of m.held) w.pua (beside_of w m.prev) term term term held small.pua (beside_small m.prev) (omega arith)

    pub unmapped_read : kept (kept (kept (released_of m.held) +ℤ kept w.pua) +ℤ kept (beside_of w m.prev)) ≡ released_of m.held +ℤ w.pua +ℤ beside_of w m.prev
    unmapped_read = sum3_read (released_of m.held) w.pua (beside_of w m.prev) term term term held small.pua (beside_small m.prev) (omega arith)

-- ---- extensions
module _ (before b : ℕ) where
  pub extends_ascii : is_extension before ≡ true → b < 0x80 → extends before b ≡ true
  extends_ascii e h = rw (e, lt-ltb b 0x80 h)

  pub extends_ff : is_extension before ≡ true → b ≡ 0xFF → extends before b ≡ true
  extends_ff e h = rw (e, le-ltb b 0x80 (omega arith), eq-eqb b 0xFF h)

  pub extends_not : ((is_extension before ≡ true) × (0x80 ≤ b) × (b ≡ 0xFF → ⊥)) ⊎ (is_extension before ≡ false) → extends before b ≡ false
  extends_not (inl h) = rw (h.0, le-ltb b 0x80 h.1, ne_eqb b 0xFF h.2)
  extends_not (inr h) = rw h

and_no : (t : Bool) → (t && false) ≡ false
and_no true = refl
and_no false = refl

module _ (w : Scale) (m : Big5) (lead b length : ℕ) where
  pub stray_extends : extends m.prev_byte b ≡ true → after_byte lead b (extension_of w b) ≡ stray_of w m lead b length
  unfolding stray_of
  stray_extends e = rw e

  pub stray_alone : extends m.prev_byte b ≡ false → length ≡ 1 → b ≡ 0xFF → after_byte lead b (scored Other None w.extension) ≡ stray_of w m lead b length
  unfolding stray_of
  stray_alone e p q = rw (e, eq-eqb length 1 p, eq-eqb b 0xFF q)

  pub stray_none : extends m.prev_byte b ≡ false → (length ≡ 1 → ⊥) ⊎ (b ≡ 0xFF → ⊥) → none (reason_by m.lead) ≡ stray_of w m lead b length
  unfolding stray_of
  stray_none e (inl p) = rw (e, ne_eqb length 1 p)
  stray_none e (inr p) = rw (e, ne_eqb b 0xFF p, and_no (eqb length 1))

-- ---- a step, by what the decoder gave
pub step_on : (t : Lent) (m : Big5) (b : ℕ) (d : Decoded) → d ≡ decode_of t.index m.lead b → (e : Event) → d.event ≡ e → on_event t.scale m d.lead b e ≡ step_of t m b
unfolding step_of
step_on t m b d p e q = sym (ap (on_event t.scale m d.lead b) q) ∙ ap (λ (x : Decoded). on_event t.scale m x.lead b x.event) p
