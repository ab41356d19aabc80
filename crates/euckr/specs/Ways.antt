-- What the code's branches need of the definitions: sizes, and sums as the code makes them.
use Rattle.std.specs.Prelude.{◌≡◌, refl, Bool, true, false, ◌&&◌, List, ◌⊎◌, ℕ, ◌+◌, ◌<◌, ◌≤◌, ltb, eqb, ℤ, ◌+ℤ◌, None}
use Rattle.std.proofs.Common.{sym, ap, ◌∙◌, inl, inr, arith, SFits}
use Rattle.std.proofs.Math.IntN.{nat_abs}
use borrow.Author.Tests.{eq-eqb, ne_eqb, lt-ltb, le-ltb}
use Rattle.std.specs.Int.{w64}
use Rattle.laws.specs.Tests.{picked}
use Rattle.laws.specs.Run.{none}
use Rattle.pairs.specs.Pairs.{reason_by, released_of, SmallHeld}
use Rattle.pairs.specs.Sums.{kept, sum_small, sum_fits, sum_read, sum3_small, sum3_fits, sum3_read, sum4_small, sum4_fits, sum4_read}
use Rattle.pairs.specs.declared.Decoded.{Decoded}
use Rattle.pairs.specs.declared.Event.{Event}
use Rattle.weights.specs.Weights.{term, per_byte}
use Rattle.euckr_decoder.specs.Standard.{decode_of}
use Rattle.euckr.specs.Scoring.{extra_of, is_euc, hangul_after, hanja_after, letter_after, long_of, scored, holds_of, letter_of, around_of, inner_of, outer_of, hangul_of, hanja_of, other_of, is_extension, is_lone, extends, extension_of, after_byte, stray_of, on_event, Lent, step_of}
use Rattle.euckr.specs.EucKr.{SmallScale}
use Rattle.euckr.specs.declared.EucKr.{EucKr}
use Rattle.euckr.specs.declared.LatinKorean.{LatinKorean}
use Rattle.euckr.specs.declared.LatinKorean.TheVariants.{AsciiLetter, Hangul, Hanja, Other}
use Rattle.euckr.specs.declared.Scale.{Scale}
use Rattle.euckr.specs.declared.Scored.{Scored}

-- ---- sizes
-- the score changes by at most five terms
abbrev pub FewTerms : Scored → Type 0
FewTerms s = nat_abs s.gain ≤ per_byte

module _ (w : Scale) (small : SmallScale w) where
  hangul_after_small : (k : LatinKorean) → nat_abs (hangul_after w k) ≤ term
  hangul_after_small AsciiLetter = small.adjacency
  hangul_after_small Hangul = omega arith
  hangul_after_small Hanja = omega arith
  hangul_after_small Other = omega arith

  hanja_after_small : (k : LatinKorean) → nat_abs (hanja_after w k) ≤ term
  hanja_after_small AsciiLetter = small.adjacency
  hanja_after_small Hangul = small.mixed
  hanja_after_small Hanja = omega arith
  hanja_after_small Other = omega arith

  letter_after_small : (k : LatinKorean) → nat_abs (letter_after w k) ≤ term
  letter_after_small AsciiLetter = omega arith
  letter_after_small Hangul = small.adjacency
  letter_after_small Hanja = small.adjacency
  letter_after_small Other = omega arith

  long_small : (n : ℕ) → nat_abs (long_of w n) ≤ term
  unfolding long_of
  long_small n = picked (λ z. nat_abs z ≤ term) (ltb 5 n) small.long (omega arith)

  -- ---- the sums
  module _ (m : EucKr) (held : SmallHeld m.held) where
    abbrev a : ℤ
    a = released_of m.held

    abbrev b : ℤ
    b = hangul_after w m.prev

    abbrev c : ℤ
    c = long_of w (m.current_word_len + 1)

    abbrev d : ℤ
    d = hanja_after w m.prev

    pub around_part : SFits w64 (kept a +ℤ kept b)
    around_part = sum_fits a b term term held (hangul_after_small m.prev) (omega arith)

    pub around_fits : SFits w64 (kept (kept a +ℤ kept b) +ℤ kept c)
    around_fits = sum3_fits a b c term term term held (hangul_after_small m.prev) (long_small (m.current_word_len + 1)) (omega arith)

    pub around_read : kept (kept (kept a +ℤ kept b) +ℤ kept c) ≡ around_of w m
    unfolding around_of
    around_read = sum3_read a b c term term term held (hangul_after_small m.prev) (long_small (m.current_word_len + 1)) (omega arith)

    pub around_small : nat_abs (around_of w m) ≤ term + term + term
    unfolding around_of
    around_small = sum3_small a b c term term term held (hangul_after_small m.prev) (long_small (m.current_word_len + 1)) (omega arith)

    module _ (extra : ℤ) (little : nat_abs extra ≤ term) where
      pub inner_part : SFits w64 (kept (around_of w m) +ℤ kept w.hangul)
      inner_part = sum_fits (around_of w m) w.hangul (term + term + term) term around_small small.hangul (omega arith)

      pub inner_fits : SFits w64 (kept (kept (around_of w m) +ℤ kept w.hangul) +ℤ kept extra)
      inner_fits = sum3_fits (around_of w m) w.hangul extra (term + term + term) term term around_small small.hangul little (omega arith)

      pub inner_read : kept (kept (kept (around_of w m) +ℤ kept w.hangul) +ℤ kept extra) ≡ around_of w m +ℤ w.hangul +ℤ extra
      inner_read = sum3_read (around_of w m) w.hangul extra (term + term + term) term term around_small small.hangul little (omega arith)

      pub inner_small : FewTerms (inner_of w m extra)
      unfolding inner_of
      inner_small = omega (arith, sum3_small (around_of w m) w.hangul extra (term + term + term) term term around_small small.hangul little (omega arith))

    pub outer_fits : SFits w64 (kept (around_of w m) +ℤ kept w.outer)
    outer_fits = sum_fits (around_of w m) w.outer (term + term + term) term around_small small.outer (omega arith)

    pub outer_read : kept (kept (around_of w m) +ℤ kept w.outer) ≡ around_of w m +ℤ w.outer
    outer_read = sum_read (around_of w m) w.outer (term + term + term) term around_small small.outer (omega arith)

    pub outer_small : FewTerms (outer_of w m)
    unfolding outer_of
    outer_small =
        picked FewTerms (holds_of m) (omega (arith, around_small)) (omega (arith, sum_small (around_of w m) w.outer (term + term + term) term around_small small.outer (omega arith)))

    pub hangul_small : (extras : List ℤ) (u x : ℕ) → nat_abs (extra_of extras u) ≤ term → FewTerms (hangul_of w m extras u x)
    unfolding hangul_of
    hangul_small extras u x h = picked FewTerms (m.prev_was_euc_range && is_euc x) (inner_small (extra_of extras u) h) outer_small

    module _ (own : ℤ) (little : nat_abs own ≤ term) where
      pub hanja_part : SFits w64 (kept a +ℤ kept own)
      hanja_part = sum_fits a own term term held little (omega arith)

      pub hanja_part3 : SFits w64 (kept (kept a +ℤ kept own) +ℤ kept d)
      hanja_part3 = sum3_fits a own d term term term held little (hanja_after_small m.prev) (omega arith)

      pub hanja_fits : SFits w64 (kept (kept (kept a +ℤ kept own) +ℤ kept d) +ℤ kept c)
      hanja_fits = sum4_fits a own d term term term held little (hanja_after_small m.prev) (omega arith) c term (long_small (m.current_word_len + 1)) (omega arith)

      pub hanja_read : kept (kept (kept (kept a +ℤ kept own) +ℤ kept d) +ℤ kept c) ≡ a +ℤ own +ℤ d +ℤ c
      hanja_read = sum4_read a own d term term term held little (hanja_after_small m.prev) (omega arith) c term (long_small (m.current_word_len + 1)) (omega arith)

      pub hanja_small : FewTerms (hanja_of w m own)
      unfolding hanja_of
      hanja_small = omega (arith, sum4_small a own d term term term held little (hanja_after_small m.prev) (omega arith) c term (long_small (m.current_word_len + 1)) (omega arith))

      pub other_small : FewTerms (other_of m own)
      unfolding other_of
      other_small = omega (arith, sum_small a own term term held little (omega arith))

    pub letter_small : FewTerms (letter_of w m)
    unfolding letter_of
    letter_small = omega (arith, letter_after_small m.prev)

-- ---- Hangul
module _ (w : Scale) (m : EucKr) (extras : List ℤ) (u b : ℕ) where
  pub hangul_inner : m.prev_was_euc_range ≡ true → is_euc b ≡ true → inner_of w m (extra_of extras u) ≡ hangul_of w m extras u b
  unfolding hangul_of
  hangul_inner p q = rw (p, q)

  pub hangul_outer : ((m.prev_was_euc_range ≡ true) × (is_euc b ≡ false)) ⊎ (m.prev_was_euc_range ≡ false) → outer_of w m ≡ hangul_of w m extras u b
  unfolding hangul_of
  hangul_outer (inl h) = rw (h.0, h.1)
  hangul_outer (inr h) = rw h

-- ---- extensions
module _ (before x : ℕ) where
  pub extends_ascii : is_extension before ≡ true → x < 0x80 → extends before x ≡ true
  extends_ascii e h = rw (e, lt-ltb x 0x80 h)

  pub extends_lone : is_extension before ≡ true → 0x80 ≤ x → is_lone x ≡ true → extends before x ≡ true
  extends_lone e h p = rw (e, le-ltb x 0x80 h, p)

  pub extends_not : ((is_extension before ≡ true) × (0x80 ≤ x) × (is_lone x ≡ false)) ⊎ (is_extension before ≡ false) → extends before x ≡ false
  extends_not (inl h) = rw (h.0, le-ltb x 0x80 h.1, h.2)
  extends_not (inr h) = rw h

and_no : (t : Bool) → (t && false) ≡ false
and_no true = refl
and_no false = refl

module _ (w : Scale) (m : EucKr) (lead x length : ℕ) where
  pub stray_extends : extends m.prev_byte x ≡ true → after_byte lead x (extension_of w x) ≡ stray_of w m lead x length
  unfolding stray_of
  stray_extends e = rw e

  pub stray_alone : extends m.prev_byte x ≡ false → length ≡ 1 → is_lone x ≡ true → after_byte lead x (scored Other 0 None w.extension) ≡ stray_of w m lead x length
  unfolding stray_of
  stray_alone e p q = rw (e, eq-eqb length 1 p, q)

  pub stray_none : extends m.prev_byte x ≡ false → (length ≡ 1 → ⊥) ⊎ (is_lone x ≡ false) → none (reason_by m.lead) ≡ stray_of w m lead x length
  unfolding stray_of
  stray_none e (inl p) = rw (e, ne_eqb length 1 p)
  stray_none e (inr p) = rw (e, p, and_no (eqb length 1))

-- ---- a step, by what the decoder gave
pub step_on : (t : Lent) (m : EucKr) (x : ℕ) (d : Decoded) → d ≡ decode_of t.index m.lead x → (e : Event) → d.event ≡ e → on_event t.scale m t.extras d.lead x e ≡ step_of t m x
unfolding step_of
step_on t m x d p e q = sym (ap (on_event t.scale m t.extras d.lead x) q) ∙ ap (λ (z : Decoded). on_event t.scale m t.extras z.lead x z.event) p
