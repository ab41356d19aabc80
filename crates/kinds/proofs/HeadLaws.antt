-- What an all-ASCII head does to a place's machine: from fresh, a stretch of plain bytes leaves what its last two leave, and the
-- score as it was.
use Rattle.std.specs.Prelude.{◌≡◌, refl, true, false, not, List, [], ℕ, eqb, ℤ}
use Rattle.std.proofs.Common.{sym, ◌∙◌, leb-false, lt-ltb}
use Rattle.std.proofs.lemmas.Bool.{eqb-false, not-true}
use Rattle.laws.specs.Carried.{forgets_carried}
use Rattle.laws.specs.Lists.{any}
use Rattle.laws.specs.Memory.{all, all_neither, Forgets, forgets_less}
use Rattle.laws.specs.Tests.{both, neither}
use Rattle.octets.specs.Octets.{ascii, non_ascii}
use Rattle.context.specs.Head.{escape, is_trigger}
use Rattle.big5.specs.HeadLaws.{big5_forgets}
use Rattle.big5.specs.Scoring as big5
use Rattle.euckr.specs.HeadLaws.{euckr_forgets}
use Rattle.euckr.specs.Scoring as euckr
use Rattle.iso2022jp.specs.HeadLaws.{iso2022jp_forgets}
use Rattle.iso2022jp.specs.Iso2022Jp.{is_text}
use Rattle.iso2022jp.specs.Iso2022JpLaws.{text_rest}
use Rattle.single.specs.HeadLaws.{quiet_at}
use Rattle.arabic_french.proofs.HeadLaws.{arabic_french_forgets}
use Rattle.caseless_script.proofs.HeadLaws.{caseless_forgets}
use Rattle.logical.specs.HeadLaws.{logical_forgets}
use Rattle.visual.specs.HeadLaws.{visual_forgets}
use Rattle.shift_jis.specs.HeadLaws.{shift_jis_forgets}
use Rattle.utf8.specs.HeadLaws.{utf8_forgets}
use Rattle.tables.specs.Own.{Own, own, lent_to}
use Rattle.kinds.specs.Kinds.{fresh_of, step_of}
use Rattle.kinds.specs.Plain.{is_shift, plain, Plain}
use Rattle.kinds.specs.declared.machine.Machine.{Machine}
use Rattle.kinds.specs.declared.machine.Machine.TheVariants.{Utf8, Iso2022Jp, EucKr, Big5, Caseless, Logical, Visual, ArabicFrench, ShiftJis}

-- ---- where the premises come from
-- a head without shifts
pub head_plain : (head : List ℕ) → any is_trigger head ≡ false → any is_shift head ≡ false → all plain head ≡ true
head_plain head e f = all_neither is_trigger is_shift head e f

-- a place without classes and marks: the decoders'
pub bare_plain : (pairs : List ℤ) (index : List ℕ) (extras weights : List ℤ) → Plain (own [] [] pairs index extras weights)
bare_plain pairs index extras weights = record { no_255 = λ b e. refl; no_letter = λ b e. refl }

-- ---- a plain byte passes each machine's own test
module _ (b : ℕ) (e : plain b ≡ true) where
  no_trigger : is_trigger b ≡ false
  no_trigger = not-true _ (both (not (is_trigger b)) (not (is_shift b)) e).0

  no_shift : is_shift b ≡ false
  no_shift = not-true _ (both (not (is_trigger b)) (not (is_shift b)) e).1

  plain_ascii : ascii b ≡ true
  plain_ascii = lt-ltb b 0x80 (leb-false 0x80 b (neither (eqb b escape) (non_ascii b) no_trigger).1)

  plain_text : is_text b ≡ true
  plain_text =
      let s = neither _ _ no_shift in
      sym (text_rest b (eqb-false _ _ (neither (eqb b escape) (non_ascii b) no_trigger).0) (eqb-false _ _ s.0) (eqb-false _ _ s.1)) ∙ plain_ascii

-- ---- the law
module _ (o : Own) (p : Plain o) where
  plain_quiet : (b : ℕ) → plain b ≡ true → quiet_at (lent_to o) b ≡ true
  plain_quiet b e = let a = plain_ascii b e in rw (a, p.no_255 b a, p.no_letter b a)

  pub machine_forgets : (m : Machine) → Forgets plain (step_of o) (fresh_of m)
  unfolding step_of fresh_of
  machine_forgets (Utf8 m) = forgets_carried Utf8 (λ n b. refl) (forgets_less plain_ascii utf8_forgets)
  machine_forgets (Iso2022Jp m) = forgets_carried Iso2022Jp (λ n b. refl) (forgets_less plain_text (iso2022jp_forgets o.index))
  machine_forgets (EucKr m) = forgets_carried EucKr (λ n b. refl) (forgets_less plain_ascii (euckr_forgets (euckr.lent o.index o.extras (euckr.scale_of o.weights))))
  machine_forgets (Big5 m) = forgets_carried Big5 (λ n b. refl) (forgets_less plain_ascii (big5_forgets (big5.lent o.index (big5.scale_of o.weights))))
  machine_forgets (Caseless m) = forgets_carried Caseless (λ n b. refl) (forgets_less plain_quiet (caseless_forgets (lent_to o)))
  machine_forgets (Logical m) = forgets_carried Logical (λ n b. refl) (forgets_less plain_quiet (logical_forgets (lent_to o)))
  machine_forgets (Visual m) = forgets_carried Visual (λ n b. refl) (forgets_less plain_quiet (visual_forgets (lent_to o)))
  machine_forgets (ArabicFrench m) = forgets_carried ArabicFrench (λ n b. refl) (forgets_less plain_quiet (arabic_french_forgets (lent_to o)))
  machine_forgets (ShiftJis m) = forgets_carried ShiftJis (λ n b. refl) (forgets_less plain_ascii (shift_jis_forgets o.index))
