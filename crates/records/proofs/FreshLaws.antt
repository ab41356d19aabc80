-- The test whether a machine is fresh decides, in both directions.
use Rattle.std.specs.Prelude.{◌≡◌, refl, Bool, true, false, ℕ, None, Some, Option, ℤ}
use Rattle.std.proofs.Common.{ap, ◌∙◌, arith, eqb-true}
use Rattle.big5.specs.declared.Big5.{Big5 as Big5Record}
use Rattle.big5.specs.declared.LatinCj.{LatinCj}
use Rattle.big5.specs.declared.LatinCj.TheVariants as J
use Rattle.euckr.specs.declared.EucKr.{EucKr as EucKrRecord}
use Rattle.euckr.specs.declared.LatinKorean.{LatinKorean}
use Rattle.euckr.specs.declared.LatinKorean.TheVariants as K
use Rattle.iso2022jp.specs.declared.DecoderState.{DecoderState}
use Rattle.iso2022jp.specs.declared.DecoderState.TheVariants as D
use Rattle.iso2022jp.specs.declared.Iso2022Jp.{Iso2022Jp as Iso2022JpRecord}
use Rattle.iso2022jp.specs.declared.OutputState.{OutputState}
use Rattle.iso2022jp.specs.declared.OutputState.TheVariants as O
use Rattle.arabic_french.specs.declared.ArabicFrench.{ArabicFrench as ArabicFrenchRecord}
use Rattle.arabic_french.specs.declared.LatinCaseState.{LatinCaseState}
use Rattle.arabic_french.specs.declared.LatinCaseState.TheVariants as S
use Rattle.caseless_script.specs.declared.Caseless.{Caseless as CaselessRecord}
use Rattle.logical.specs.declared.Logical.{Logical as LogicalRecord}
use Rattle.visual.specs.declared.Visual.{Visual as VisualRecord}
use Rattle.shift_jis.specs.declared.ShiftJis.{ShiftJis as ShiftJisRecord}
use Rattle.utf8.specs.declared.Utf8.{Utf8 as Utf8Record}
use Rattle.kinds.specs.declared.machine.Machine.{Machine}
use Rattle.kinds.specs.declared.machine.Machine.TheVariants.{Utf8, Iso2022Jp, EucKr, Big5, Caseless, Logical, Visual, ArabicFrench, ShiftJis}
use Rattle.laws.specs.Tests.{both, off}
use Rattle.big5.specs.Scoring as big5
use Rattle.euckr.specs.Scoring as euckr
use Rattle.iso2022jp.specs.Iso2022Jp as iso2022jp
use Rattle.arabic_french.specs.ArabicFrench as arabic_french
use Rattle.caseless_script.specs.Caseless as caseless
use Rattle.logical.specs.Logical as logical
use Rattle.visual.specs.Visual as visual
use Rattle.shift_jis.specs.ShiftJis as shiftJis
use Rattle.utf8.specs.Utf8 as utf-8
use Rattle.kinds.specs.Kinds.{fresh_of}
use Rattle.records.specs.Fresh.{fresh_utf8_b, ascii_state, ascii_out, fresh_iso2022_jp_b, empty_b, other_korean, fresh_euc_kr_b, other_cj, fresh_big5_b, fresh_common_b, fresh_caseless_b, fresh_logical_b, fresh_visual_b, space_case, fresh_arabic_french_b, fresh_shift_jis_b, fresh_b}

no : {A : Type 0} → false ≡ true → A
no e = absurd (let q : ◌≡◌ {A = ℕ} 0 1 = cc in omega arith)

ascii_state_lem : (x : DecoderState) → ascii_state x ≡ true → x ≡ D.Ascii
ascii_state_lem D.Ascii e = refl
ascii_state_lem D.Roman e = no e
ascii_state_lem D.Katakana e = no e
ascii_state_lem D.LeadByte e = no e
ascii_state_lem D.TrailByte e = no e
ascii_state_lem D.EscapeStart e = no e
ascii_state_lem D.Escape e = no e

ascii_out_lem : (x : OutputState) → ascii_out x ≡ true → x ≡ O.Ascii
ascii_out_lem O.Ascii e = refl
ascii_out_lem O.Roman e = no e
ascii_out_lem O.Katakana e = no e
ascii_out_lem O.LeadByte e = no e

empty : (x : Option ℤ) → empty_b x ≡ true → x ≡ None
empty None e = refl
empty (Some s) e = no e

other_korean_lem : (x : LatinKorean) → other_korean x ≡ true → x ≡ K.Other
other_korean_lem K.Other e = refl
other_korean_lem K.AsciiLetter e = no e
other_korean_lem K.Hangul e = no e
other_korean_lem K.Hanja e = no e

other_cj_lem : (x : LatinCj) → other_cj x ≡ true → x ≡ J.Other
other_cj_lem J.Other e = refl
other_cj_lem J.AsciiLetter e = no e
other_cj_lem J.Cj e = no e

space_case_lem : (x : LatinCaseState) → space_case x ≡ true → x ≡ S.Space
space_case_lem S.Space e = refl
space_case_lem S.Upper e = no e
space_case_lem S.Lower e = no e
space_case_lem S.AllCaps e = no e

-- the four fields that the single-byte machines share
record Common (prev : ℕ) (prevAscii : Bool) (word longest : ℕ) : Type 0 where
  no_prev : prev ≡ 0
  is_ascii : prevAscii ≡ true
  no_word : word ≡ 0
  no_longest : longest ≡ 0

common : (prev : ℕ) (prevAscii : Bool) (word longest : ℕ) → fresh_common_b prev prevAscii word longest ≡ true → Common prev prevAscii word longest
unfolding fresh_common_b
common prev prevAscii word longest e =
    let a = both _ _ e in
    let b = both _ _ a.1 in
    let c = both _ _ b.1 in
    record { no_prev = eqb-true _ _ a.0; is_ascii = b.0; no_word = eqb-true _ _ c.0; no_longest = eqb-true _ _ c.1 }

fresh_utf8 : (m : Utf8Record) → fresh_utf8_b m ≡ true → m ≡ utf-8.fresh
unfolding fresh_utf8_b
fresh_utf8 m e =
    let a = both _ _ e in
    let b = both _ _ a.1 in
    same (eqb-true _ _ a.0) (eqb-true _ _ b.0) (eqb-true _ _ b.1)
  where
    same : {n l h : ℕ} → n ≡ 0 → l ≡ 0x80 → h ≡ 0xBF → utf-8.needs n l h ≡ utf-8.fresh
    same p q r = rw (p, q, r)

fresh_iso2022jp : (m : Iso2022JpRecord) → fresh_iso2022_jp_b m ≡ true → m ≡ iso2022jp.fresh
unfolding fresh_iso2022_jp_b
fresh_iso2022jp m e =
    let a = both _ _ e in
    let b = both _ _ a.1 in
    let c = both _ _ b.1 in
    same (ascii_state_lem m.state a.0) (ascii_out_lem m.out b.0) (eqb-true _ _ c.0) (off m.output c.1)
  where
    same : {s : DecoderState} {o : OutputState} {l : ℕ} {p : Bool} → s ≡ D.Ascii → o ≡ O.Ascii → l ≡ 0 → p ≡ false → iso2022jp.holds s o l p ≡ iso2022jp.fresh
    same p q r s = rw (p, q, r, s)

fresh_euckr : (m : EucKrRecord) → fresh_euc_kr_b m ≡ true → m ≡ euckr.fresh
unfolding fresh_euc_kr_b
fresh_euckr m e =
    let a = both _ _ e in
    let b = both _ _ a.1 in
    let c = both _ _ b.1 in
    let d = both _ _ c.1 in
    let f = both _ _ d.1 in
    same (other_korean_lem m.prev a.0) (eqb-true _ _ b.0) (eqb-true _ _ c.0) (off m.prev_was_euc_range d.0) (eqb-true _ _ f.0) (empty m.held f.1)
  where
    same : {k : LatinKorean} {l b : ℕ} {r : Bool} {w : ℕ} {h : Option ℤ} → k ≡ K.Other → l ≡ 0 → b ≡ 0 → r ≡ false → w ≡ 0 → h ≡ None → record { lead = l; prev_byte = b; prev_was_euc_range = r; prev = k; current_word_len = w; held = h } ≡ euckr.fresh
    same p q r s t u = rw (p, q, r, s, t, u)

fresh_big5 : (m : Big5Record) → fresh_big5_b m ≡ true → m ≡ big5.fresh
unfolding fresh_big5_b
fresh_big5 m e =
    let a = both _ _ e in
    let b = both _ _ a.1 in
    let c = both _ _ b.1 in
    same (other_cj_lem m.prev a.0) (eqb-true _ _ b.0) (eqb-true _ _ c.0) (empty m.held c.1)
  where
    same : {k : LatinCj} {l b : ℕ} {h : Option ℤ} → k ≡ J.Other → l ≡ 0 → b ≡ 0 → h ≡ None → record { lead = l; prev = k; prev_byte = b; held = h } ≡ big5.fresh
    same p q r s = rw (p, q, r, s)

fresh_caseless : (m : CaselessRecord) → fresh_caseless_b m ≡ true → m ≡ caseless.fresh
unfolding fresh_caseless_b
fresh_caseless m e = let c = common m.prev m.prev_ascii m.current_word_len m.longest_word e in same c.no_prev c.is_ascii c.no_word c.no_longest
  where
    same : {k : ℕ} {a : Bool} {w l : ℕ} → k ≡ 0 → a ≡ true → w ≡ 0 → l ≡ 0 → record { prev = k; prev_ascii = a; current_word_len = w; longest_word = l } ≡ caseless.fresh
    same p q r s = rw (p, q, r, s)

fresh_logical : (m : LogicalRecord) → fresh_logical_b m ≡ true → m ≡ logical.fresh
unfolding fresh_logical_b
fresh_logical m e =
    let a = both _ _ e in
    let c = common m.prev m.prev_ascii m.current_word_len m.longest_word a.1 in
    same c.no_prev c.is_ascii (eqb-true _ _ a.0) c.no_word c.no_longest
  where
    same : {k : ℕ} {a : Bool} {p w l : ℕ} → k ≡ 0 → a ≡ true → p ≡ 0 → w ≡ 0 → l ≡ 0 → record { prev = k; prev_ascii = a; plausible_punctuation = p; current_word_len = w; longest_word = l } ≡ logical.fresh
    same p q r s t = rw (p, q, r, s, t)

fresh_visual : (m : VisualRecord) → fresh_visual_b m ≡ true → m ≡ visual.fresh
unfolding fresh_visual_b
fresh_visual m e =
    let a = both _ _ e in
    let b = both _ _ a.1 in
    let c = common m.prev m.prev_ascii m.current_word_len m.longest_word b.1 in
    same c.no_prev c.is_ascii (off m.prev_punctuation b.0) (eqb-true _ _ a.0) c.no_word c.no_longest
  where
    same : {k : ℕ} {a b : Bool} {p w l : ℕ} → k ≡ 0 → a ≡ true → b ≡ false → p ≡ 0 → w ≡ 0 → l ≡ 0 → record { prev = k; prev_ascii = a; prev_punctuation = b; plausible_punctuation = p; current_word_len = w; longest_word = l } ≡ visual.fresh
    same p q r s t u = rw (p, q, r, s, t, u)

fresh_arabic_french : (m : ArabicFrenchRecord) → fresh_arabic_french_b m ≡ true → m ≡ arabic_french.fresh
unfolding fresh_arabic_french_b
fresh_arabic_french m e =
    let a = both _ _ e in
    let c = common m.prev m.prev_ascii m.current_word_len m.longest_word a.1 in
    same c.no_prev (space_case_lem m.case_state a.0) c.is_ascii c.no_word c.no_longest
  where
    same : {k : ℕ} {s : LatinCaseState} {a : Bool} {w l : ℕ} → k ≡ 0 → s ≡ S.Space → a ≡ true → w ≡ 0 → l ≡ 0 → record { prev = k; case_state = s; prev_ascii = a; current_word_len = w; longest_word = l } ≡ arabic_french.fresh
    same p q r s t = rw (p, q, r, s, t)

fresh_shift_jis : (m : ShiftJisRecord) → fresh_shift_jis_b m ≡ true → m ≡ shiftJis.fresh
fresh_shift_jis m e = ap shiftJis.holds (eqb-true _ _ e)

-- ---- in both directions
pub fresh_true : (m : Machine) → fresh_b m ≡ true → m ≡ fresh_of m
unfolding fresh_b fresh_of
fresh_true (Utf8 m) e = ap Utf8 (fresh_utf8 m e)
fresh_true (Iso2022Jp m) e = ap Iso2022Jp (fresh_iso2022jp m e)
fresh_true (EucKr m) e = ap EucKr (fresh_euckr m e)
fresh_true (Big5 m) e = ap Big5 (fresh_big5 m e)
fresh_true (Caseless m) e = ap Caseless (fresh_caseless m e)
fresh_true (Logical m) e = ap Logical (fresh_logical m e)
fresh_true (Visual m) e = ap Visual (fresh_visual m e)
fresh_true (ArabicFrench m) e = ap ArabicFrench (fresh_arabic_french m e)
fresh_true (ShiftJis m) e = ap ShiftJis (fresh_shift_jis m e)

fresh_passes : (m : Machine) → fresh_b (fresh_of m) ≡ true
unfolding fresh_b fresh_of fresh_utf8_b fresh_iso2022_jp_b fresh_euc_kr_b fresh_big5_b fresh_common_b fresh_caseless_b fresh_logical_b fresh_visual_b fresh_arabic_french_b
fresh_passes (Utf8 m) = refl
fresh_passes (Iso2022Jp m) = refl
fresh_passes (EucKr m) = refl
fresh_passes (Big5 m) = refl
fresh_passes (Caseless m) = refl
fresh_passes (Logical m) = refl
fresh_passes (Visual m) = refl
fresh_passes (ArabicFrench m) = refl
fresh_passes (ShiftJis m) = refl

pub true_fresh : (m : Machine) → m ≡ fresh_of m → fresh_b m ≡ true
true_fresh m e = ap fresh_b e ∙ fresh_passes m
