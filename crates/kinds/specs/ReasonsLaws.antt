-- No machine drops out for another reason.
use Rattle.std.specs.Prelude.{◌≡◌, true, List, ◌⊎◌, ℕ, ℤ}
use Rattle.std.proofs.Math.Path.{refl}
use Rattle.std.proofs.Common.{inl, inr}
use Rattle.laws.specs.Carried.{none_carried}
use Rattle.laws.specs.Run.{live, run, WhenNone, run_why, none_more}
use Rattle.laws.specs.declared.Reason.{Reason}
use Rattle.laws.specs.declared.Reason.TheVariants.{Class255, BadByte, BadSecondByte, BrokenEscape, CutAtClose}
use Rattle.pairs.specs.PairsLaws.{OfPairs}
use Rattle.big5.proofs.Big5Laws as big5-laws
use Rattle.big5.specs.Scoring as big5-scoring
use Rattle.euckr.specs.EucKrLaws as euckr-laws
use Rattle.euckr.specs.Scoring as euckr-scoring
use Rattle.iso2022jp.specs.Iso2022JpLaws as iso2022jp-laws
use Rattle.caseless_script.specs.CaselessLaws as caseless-laws
use Rattle.logical.specs.LogicalLaws as logical-laws
use Rattle.visual.specs.VisualLaws as visual-laws
use Rattle.arabic_french.specs.ArabicFrenchLaws as arabicFrench-laws
use Rattle.shift_jis.specs.ShiftJisLaws as shiftJis-laws
use Rattle.utf8.specs.Utf8Laws as utf-8-laws
use Rattle.tables.specs.Own.{Own, lent_to}
use Rattle.kinds.specs.KindLaws.{Alike, alike_place, step_stays}
use Rattle.kinds.specs.Kinds.{place_number, step_of, close_of}
use Rattle.kinds.specs.Reasons.{byte_reason, end_reason}
use Rattle.kinds.specs.declared.machine.Machine.{Machine}
use Rattle.kinds.specs.declared.machine.Machine.TheVariants.{Utf8, Iso2022Jp, EucKr, Big5, Caseless, Logical, Visual, ArabicFrench, ShiftJis}

abbrev Given : ℕ → Reason → Type 0
Given k d = byte_reason k d ≡ true

-- the reasons of the machines that have two
bad_or_second : (k : ℕ) → Given k BadByte → Given k BadSecondByte → (d : Reason) → OfPairs d → Given k d
bad_or_second k a b d (inl e) = rw e a
bad_or_second k a b d (inr e) = rw e b

bad_or_escape : (d : Reason) → (d ≡ BadByte) ⊎ (d ≡ BrokenEscape) → Given 1 d
bad_or_escape d (inl e) = rw e
bad_or_escape d (inr e) = rw e

module _ (t : Own) where
  step_reason : (m : Machine) (b : ℕ) → WhenNone (Given (place_number m)) (step_of t m b)
  unfolding step_of
  step_reason (Utf8 m) b = none_carried Utf8 (Given 0) _ (λ d e. rw (utf-8-laws.step_reason m b d e))
  step_reason (Iso2022Jp m) b = none_carried Iso2022Jp (Given 1) _ (λ d e. bad_or_escape d (iso2022jp-laws.step_reason t.index m b d e))
  step_reason (EucKr m) b = none_carried EucKr (Given 2) _ (λ d e. bad_or_second 2 refl refl d (euckr-laws.step_reason (euckr-scoring.lent t.index t.extras (euckr-scoring.scale_of t.weights)) m b d e))
  step_reason (Big5 m) b = none_carried Big5 (Given 3) _ (λ d e. bad_or_second 3 refl refl d (big5-laws.step_reason (big5-scoring.lent t.index (big5-scoring.scale_of t.weights)) m b d e))
  step_reason (Caseless m) b = none_carried Caseless (Given 4) _ (λ d e. rw (caseless-laws.step_reason (lent_to t) m b d e))
  step_reason (Logical m) b = none_carried Logical (Given 5) _ (λ d e. rw (logical-laws.step_reason (lent_to t) m b d e))
  step_reason (Visual m) b = none_carried Visual (Given 6) _ (λ d e. rw (visual-laws.step_reason (lent_to t) m b d e))
  step_reason (ArabicFrench m) b = none_carried ArabicFrench (Given 7) _ (λ d e. rw (arabicFrench-laws.step_reason (lent_to t) m b d e))
  step_reason (ShiftJis m) b = none_carried ShiftJis (Given 8) _ (λ d e. rw (shiftJis-laws.step_reason t.index m b d e))

  -- over a stretch of bytes, since a machine stays of its kind
  pub run_reason : (m : Machine) (s : ℤ) (xs : List ℕ) → WhenNone (Given (place_number m)) (run (step_of t) (live m s) xs)
  run_reason m s xs =
      run_why (step_of t) (Alike m) (Given (place_number m)) (λ (k : Machine) (b : ℕ) (a : Alike m k). step_stays t m k b a) (λ (k : Machine) (b : ℕ) (a : Alike m k). none_more (λ (d : Reason) (g : Given (place_number k) d). rw (alike_place m k a) at g) (step_of t k b) (step_reason k b)) m s xs refl

  pub close_reason : (m : Machine) → WhenNone (λ (d : Reason). d ≡ end_reason m) (close_of t m)
  unfolding close_of
  close_reason (Utf8 m) = none_carried Utf8 (λ (d : Reason). d ≡ CutAtClose) _ (utf-8-laws.close_reason m)
  close_reason (Iso2022Jp m) = none_carried Iso2022Jp (λ (d : Reason). d ≡ CutAtClose) _ (iso2022jp-laws.close_reason m)
  close_reason (EucKr m) = none_carried EucKr (λ (d : Reason). d ≡ CutAtClose) _ (euckr-laws.close_reason m)
  close_reason (Big5 m) = none_carried Big5 (λ (d : Reason). d ≡ CutAtClose) _ (big5-laws.close_reason m)
  close_reason (Caseless m) = none_carried Caseless (λ (d : Reason). d ≡ Class255) _ (caseless-laws.close_reason (lent_to t) m)
  close_reason (Logical m) = none_carried Logical (λ (d : Reason). d ≡ Class255) _ (logical-laws.close_reason (lent_to t) m)
  close_reason (Visual m) = none_carried Visual (λ (d : Reason). d ≡ Class255) _ (visual-laws.close_reason (lent_to t) m)
  close_reason (ArabicFrench m) = none_carried ArabicFrench (λ (d : Reason). d ≡ Class255) _ (arabicFrench-laws.close_reason (lent_to t) m)
  close_reason (ShiftJis m) = none_carried ShiftJis (λ (d : Reason). d ≡ CutAtClose) _ (shiftJis-laws.close_reason m)
