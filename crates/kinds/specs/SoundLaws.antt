-- The test of what a machine can hold decides; fresh machines pass it; runs and closes keep it.
use Rattle.std.specs.Prelude.{◌≡◌, refl, Bool, true, false, List, ℕ, ◌+◌, ◌≤◌, eqb, ltb, ℤ, pos, length}
use Rattle.std.proofs.Math.Bool.{and-false}
use Rattle.std.proofs.Common.{arith}
use borrow.Author.Tests.{leb-true, le-leb}
use Rattle.laws.specs.Carried.{carried, Holds, holds_all, holds_carried, run_holds}
use Rattle.laws.specs.Lists.{any}
use Rattle.laws.specs.Run.{Outcome, none, live, run}
use Rattle.laws.specs.Still.{Ends}
use Rattle.laws.specs.Tests.{both, either}
use Rattle.big5.specs.Big5 as big5
use Rattle.big5.proofs.Big5Laws as big5-laws
use Rattle.big5.specs.Scoring as big5-scoring
use Rattle.big5.specs.declared.Big5.{Big5 as Big5Record}
use Rattle.euckr.specs.EucKr as euckr
use Rattle.euckr.specs.EucKrLaws as euckr-laws
use Rattle.euckr.specs.Scoring as euckr-scoring
use Rattle.euckr.specs.declared.EucKr.{EucKr as EucKrRecord}
use Rattle.iso2022jp.specs.Iso2022Jp as iso2022jp
use Rattle.iso2022jp.specs.Iso2022JpLaws as iso2022jp-laws
use Rattle.single.specs.Class.{space, alphabetic}
use Rattle.single.specs.ClassLaws.{live_is}
use Rattle.single.specs.Fit.{Common}
use Rattle.single.specs.Lent.{Lent}
use Rattle.single.specs.Words.{longest_of}
use Rattle.caseless_script.specs.Caseless as caseless
use Rattle.caseless_script.specs.CaselessLaws as caseless-laws
use Rattle.caseless_script.specs.declared.Caseless.{Caseless as CaselessRecord}
use Rattle.logical.specs.Logical as logical
use Rattle.logical.specs.LogicalLaws as logical-laws
use Rattle.logical.specs.declared.Logical.{Logical as LogicalRecord}
use Rattle.visual.specs.Visual as visual
use Rattle.visual.specs.VisualLaws as visual-laws
use Rattle.visual.specs.declared.Visual.{Visual as VisualRecord}
use Rattle.arabic_french.specs.ArabicFrench as arabic_french
use Rattle.arabic_french.specs.ArabicFrenchLaws as arabicFrench-laws
use Rattle.arabic_french.specs.declared.ArabicFrench.{ArabicFrench as ArabicFrenchRecord}
use Rattle.shift_jis.specs.ShiftJis as shiftJis
use Rattle.shift_jis.specs.ShiftJisLaws as shiftJis-laws
use Rattle.utf8.specs.Utf8 as utf-8
use Rattle.utf8.specs.Utf8Laws as utf-8-laws
use Rattle.kinds.specs.Kinds.{fresh_of, step_of, close_of, WeighedIn}
use Rattle.kinds.specs.KindsLaws.{run_utf_8, run_iso2022jp, run_euckr, run_big5, run_caseless, run_logical, run_visual, run_arabic_french, run_shift_jis, utf_8_still, iso2022jp_still, shift_jis_still}
use Rattle.kinds.specs.Sound.{reach_of, SoundFor, sound_logical_b, sound_b}
use Rattle.tables.specs.Own.{Own, lent_to}
use Rattle.kinds.specs.declared.machine.Machine.{Machine}
use Rattle.kinds.specs.declared.machine.Machine.TheVariants.{Utf8, Iso2022Jp, EucKr, Big5, Caseless, Logical, Visual, ArabicFrench, ShiftJis}

-- ---- the test decides, in both directions
module _ (n reach : ℕ) where
  pub sound_true : (m : Machine) → sound_b n reach m ≡ true → SoundFor n reach m
  unfolding sound_b sound_logical_b
  sound_true (Utf8 m) e = utf-8-laws.sound_true m e
  sound_true (Iso2022Jp m) e = iso2022jp-laws.sound_true m e
  sound_true (EucKr m) e = euckr-laws.sound_true n m e
  sound_true (Big5 m) e = big5-laws.sound_true n m e
  sound_true (Caseless m) e = let h = both _ _ e in (leb-true _ _ h.0, caseless-laws.sound_true reach m h.1)
  sound_true (Logical m) e = let h = both _ _ e in let i = both _ _ h.1 in (leb-true _ _ h.0, (leb-true _ _ i.0, logical-laws.sound_true reach m i.1))
  sound_true (Visual m) e = let h = both _ _ e in (leb-true _ _ h.0, visual-laws.sound_true reach m h.1)
  sound_true (ArabicFrench m) e = let h = both _ _ e in (leb-true _ _ h.0, arabicFrench-laws.sound_true reach m h.1)
  sound_true (ShiftJis m) e = shiftJis-laws.sound_true m e

  pub true_sound : (m : Machine) → SoundFor n reach m → sound_b n reach m ≡ true
  unfolding sound_b sound_logical_b
  true_sound (Utf8 m) o = utf-8-laws.true_sound m o
  true_sound (Iso2022Jp m) o = iso2022jp-laws.true_sound m o
  true_sound (EucKr m) o = euckr-laws.true_sound n m o
  true_sound (Big5 m) o = big5-laws.true_sound n m o
  true_sound (Caseless m) o = rw (le-leb _ _ o.0, caseless-laws.true_sound reach m o.1)
  true_sound (Logical m) o = rw (le-leb _ _ o.0, le-leb _ _ o.1.0, logical-laws.true_sound reach m o.1.1)
  true_sound (Visual m) o = rw (le-leb _ _ o.0, visual-laws.true_sound reach m o.1)
  true_sound (ArabicFrench m) o = rw (le-leb _ _ o.0, arabicFrench-laws.true_sound reach m o.1)
  true_sound (ShiftJis m) o = shiftJis-laws.true_sound m o

-- ---- more bytes
pub sound_more : (n k reach far : ℕ) (m : Machine) → n ≤ k → reach ≤ far → SoundFor n reach m → SoundFor k far m
sound_more n k reach far (Utf8 m) h i o = o
sound_more n k reach far (Iso2022Jp m) h i o = o
sound_more n k reach far (EucKr m) h i o = euckr-laws.sound_more n k m h o
sound_more n k reach far (Big5 m) h i o = big5-laws.sound_any n k m o
sound_more n k reach far (Caseless m) h i o = (omega (arith, o.0), caseless-laws.sound_more reach far m i o.1)
sound_more n k reach far (Logical m) h i o = (omega (arith, o.0), (omega (arith, o.1.0), logical-laws.sound_more reach far m i o.1.1))
sound_more n k reach far (Visual m) h i o = (omega (arith, o.0), visual-laws.sound_more reach far m i o.1)
sound_more n k reach far (ArabicFrench m) h i o = (omega (arith, o.0), arabicFrench-laws.sound_more reach far m i o.1)
sound_more n k reach far (ShiftJis m) h i o = o

-- ---- fresh machines
pub fresh_sound : (n reach : ℕ) (m : Machine) → SoundFor n reach (fresh_of m)
unfolding fresh_of
fresh_sound n reach (Utf8 m) = utf-8-laws.fresh_sound
fresh_sound n reach (Iso2022Jp m) = iso2022jp-laws.fresh_sound
fresh_sound n reach (EucKr m) = record { lead_fits = refl; word_most = omega arith; held_small = omega arith }
fresh_sound n reach (Big5 m) = record { lead_fits = refl; held_small = omega arith }
fresh_sound n reach (Caseless m) = (omega arith, start)
  where
    start : Common reach 0 0 0
    start = record { prev_below = omega arith; word_most = omega arith; longest_most = omega arith }
fresh_sound n reach (Logical m) = (omega arith, (omega arith, record { punctuation_most = omega arith; common = record { prev_below = omega arith; word_most = omega arith; longest_most = omega arith } }))
fresh_sound n reach (Visual m) = (omega arith, record { punctuation_most = omega arith; common = record { prev_below = omega arith; word_most = omega arith; longest_most = omega arith } })
fresh_sound n reach (ArabicFrench m) = (omega arith, record { prev_below = omega arith; word_most = omega arith; longest_most = omega arith })
fresh_sound n reach (ShiftJis m) = shiftJis-laws.fresh_sound

-- ---- a stretch
ends_holds : {S : Type 0} (P : S → Type 0) (s : ℤ) (o : Outcome S) → Ends P s o → Holds P o
ends_holds P s (none d) h = tt
ends_holds P s (live m t) h = h.0

holds_more : {S : Type 0} (P Q : S → Type 0) (o : Outcome S) → ((m : S) → P m → Q m) → Holds P o → Holds Q o
holds_more P Q (none d) f h = tt
holds_more P Q (live m s) f h = f m h

module _ (t : Own) (n : ℕ) (xs : List ℕ) where
  abbrev total : ℕ
  total = n + length xs

  -- each kind's own run, lifted
  lifted : {S : Type 0} (wrap : S → Machine) (m : S) (step : S → ℕ → Outcome S) → run (step_of t) (live (wrap m) (pos 0)) xs ≡ carried wrap (run step (live m (pos 0)) xs) → Holds (λ (k : S). SoundFor total total (wrap k)) (run step (live m (pos 0)) xs) → Holds (SoundFor total total) (run (step_of t) (live (wrap m) (pos 0)) xs)
  lifted wrap m step e h = rw e (holds_carried wrap (SoundFor total total) (run step (live m (pos 0)) xs) h)

  pub run_sound : (m : Machine) → WeighedIn m t.weights → SoundFor n n m → Holds (SoundFor total total) (run (step_of t) (live m (pos 0)) xs)
  run_sound (Utf8 m) w o = lifted Utf8 m utf-8.step_of (run_utf_8 t (pos 0) xs m) (ends_holds utf-8.Sound (pos 0) (run utf-8.step_of (live m (pos 0)) xs) (utf-8-laws.run_keeps m (pos 0) xs o))
  run_sound (Iso2022Jp m) w o =
      lifted Iso2022Jp m (iso2022jp.step_of t.index) (run_iso2022jp t (pos 0) xs m) (ends_holds iso2022jp.Sound (pos 0) (run (iso2022jp.step_of t.index) (live m (pos 0)) xs) (iso2022jp-laws.run_keeps t.index m (pos 0) xs o))
  run_sound (EucKr m) w o =
      let l = euckr-scoring.lent t.index t.extras (euckr-scoring.scale_of t.weights) in
      lifted EucKr m (euckr-scoring.step_of l) (run_euckr t (pos 0) xs m) (run_holds (euckr-scoring.step_of l) euckr.Sound (λ (k : ℕ) (x : EucKrRecord) (b : ℕ) (h : euckr.Sound k x). holds_all (euckr.Sound (k + 1)) (euckr-scoring.step_of l x b) (λ (y : EucKrRecord) (s : ℤ) e. euckr-laws.turn_sound l w k x b y s h e)) n (live m (pos 0)) xs o)
  run_sound (Big5 m) w o =
      let l = big5-scoring.lent t.index (big5-scoring.scale_of t.weights) in
      lifted Big5 m (big5-scoring.step_of l) (run_big5 t (pos 0) xs m) (run_holds (big5-scoring.step_of l) big5.Sound (λ (k : ℕ) (x : Big5Record) (b : ℕ) (h : big5.Sound k x). holds_all (big5.Sound (k + 1)) (big5-scoring.step_of l x b) (λ (y : Big5Record) (s : ℤ) e. (big5-laws.turn_within l w k x b y s h e).0)) n (live m (pos 0)) xs o)
  run_sound (Caseless m) w o =
      let l = lent_to t in
      lifted Caseless m (caseless.step_of l) (run_caseless t (pos 0) xs m) (holds_more (caseless.Sound total) (λ (k : CaselessRecord). SoundFor total total (Caseless k)) (run (caseless.step_of l) (live m (pos 0)) xs) (λ (k : CaselessRecord) (h : caseless.Sound total k). (h.longest_most, h)) (run_holds (caseless.step_of l) caseless.Sound (λ (k : ℕ) (x : CaselessRecord) (b : ℕ) (h : caseless.Sound k x). holds_all (caseless.Sound (k + 1)) (caseless.step_of l x b) (λ (y : CaselessRecord) (s : ℤ) e. caseless-laws.sound_next l x b k y s h e)) n (live m (pos 0)) xs o.1))
  run_sound (Logical m) w o =
      let l = lent_to t in
      lifted Logical m (logical.step_of l) (run_logical t (pos 0) xs m) (holds_more (logical.Sound total) (λ (k : LogicalRecord). SoundFor total total (Logical k)) (run (logical.step_of l) (live m (pos 0)) xs) (λ (k : LogicalRecord) (h : logical.Sound total k). (h.punctuation_most, (h.common.longest_most, h))) (run_holds (logical.step_of l) logical.Sound (λ (k : ℕ) (x : LogicalRecord) (b : ℕ) (h : logical.Sound k x). holds_all (logical.Sound (k + 1)) (logical.step_of l x b) (λ (y : LogicalRecord) (s : ℤ) e. logical-laws.sound_next l x b k y s h e)) n (live m (pos 0)) xs o.1.1))
  run_sound (Visual m) w o =
      let l = lent_to t in
      lifted Visual m (visual.step_of l) (run_visual t (pos 0) xs m) (holds_more (visual.Sound total) (λ (k : VisualRecord). SoundFor total total (Visual k)) (run (visual.step_of l) (live m (pos 0)) xs) (λ (k : VisualRecord) (h : visual.Sound total k). (h.common.longest_most, h)) (run_holds (visual.step_of l) visual.Sound (λ (k : ℕ) (x : VisualRecord) (b : ℕ) (h : visual.Sound k x). holds_all (visual.Sound (k + 1)) (visual.step_of l x b) (λ (y : VisualRecord) (s : ℤ) e. visual-laws.sound_next l x b k y s h e)) n (live m (pos 0)) xs o.1))
  run_sound (ArabicFrench m) w o =
      let l = lent_to t in
      lifted ArabicFrench m (arabic_french.step_of l) (run_arabic_french t (pos 0) xs m) (holds_more (arabic_french.Sound total) (λ (k : ArabicFrenchRecord). SoundFor total total (ArabicFrench k)) (run (arabic_french.step_of l) (live m (pos 0)) xs) (λ (k : ArabicFrenchRecord) (h : arabic_french.Sound total k). (h.longest_most, h)) (run_holds (arabic_french.step_of l) arabic_french.Sound (λ (k : ℕ) (x : ArabicFrenchRecord) (b : ℕ) (h : arabic_french.Sound k x). holds_all (arabic_french.Sound (k + 1)) (arabic_french.step_of l x b) (λ (y : ArabicFrenchRecord) (s : ℤ) e. arabicFrench-laws.sound_next l x b k y s h e)) n (live m (pos 0)) xs o.1))
  run_sound (ShiftJis m) w o =
      lifted ShiftJis m (shiftJis.step_of t.index) (run_shift_jis t (pos 0) xs m) (ends_holds shiftJis.Sound (pos 0) (run (shiftJis.step_of t.index) (live m (pos 0)) xs) (shiftJis-laws.run_keeps t.index m (pos 0) xs o))

-- ---- the end of the stream
longest_kept : (n word longest : ℕ) (a : Bool) → word ≤ n → longest ≤ n → longest_of word longest a ≤ n
longest_kept n word longest true p q = q
longest_kept n word longest false p q = either (λ (k : ℕ). k ≤ n) (ltb longest word) (λ e. p) (λ e. q)

-- the space is no punctuation
space_plain : (t : Lent) (m : LogicalRecord) → logical.plausible t m space ≡ false
unfolding any
space_plain t m = simp and-false

next_caseless : (t : Lent) (m k : CaselessRecord) (b : ℕ) (g : ℤ) → caseless.step_of t m b ≡ live k g → k ≡ caseless.next_of t m b
unfolding caseless.step_of
next_caseless t m k b g e = live_is t b (caseless.next_of t m b) k _ g e

end_caseless : (t : Lent) (n : ℕ) (m k : CaselessRecord) (g : ℤ) → SoundFor n n (Caseless m) → caseless.step_of t m space ≡ live k g → SoundFor n (n + 1) (Caseless k)
end_caseless t n m k g h e =
    let s = caseless-laws.sound_next t m space n k g h.1 e in
    rw (next_caseless t m k space g e) (longest_kept n m.current_word_len m.longest_word (alphabetic t space) h.1.word_most h.0, rw (next_caseless t m k space g e) at s)

next_logical : (t : Lent) (m k : LogicalRecord) (b : ℕ) (g : ℤ) → logical.step_of t m b ≡ live k g → k ≡ logical.next_of t m b
unfolding logical.step_of
next_logical t m k b g e = live_is t b (logical.next_of t m b) k _ g e

end_logical : (t : Lent) (n : ℕ) (m k : LogicalRecord) (g : ℤ) → SoundFor n n (Logical m) → logical.step_of t m space ≡ live k g → SoundFor n (n + 1) (Logical k)
end_logical t n m k g h e =
    let s = logical-laws.sound_next t m space n k g h.1.1 e in
    rw (next_logical t m k space g e) (rw (space_plain t m) h.0, (longest_kept n m.current_word_len m.longest_word (alphabetic t space) h.1.1.common.word_most h.1.0, rw (next_logical t m k space g e) at s))

next_visual : (t : Lent) (m k : VisualRecord) (b : ℕ) (g : ℤ) → visual.step_of t m b ≡ live k g → k ≡ visual.next_of t m b
unfolding visual.step_of
next_visual t m k b g e = live_is t b (visual.next_of t m b) k _ g e

end_visual : (t : Lent) (n : ℕ) (m k : VisualRecord) (g : ℤ) → SoundFor n n (Visual m) → visual.step_of t m space ≡ live k g → SoundFor n (n + 1) (Visual k)
end_visual t n m k g h e =
    let s = visual-laws.sound_next t m space n k g h.1 e in
    rw (next_visual t m k space g e) (longest_kept n m.current_word_len m.longest_word (alphabetic t space) h.1.common.word_most h.0, rw (next_visual t m k space g e) at s)

next_arabic_french : (t : Lent) (m k : ArabicFrenchRecord) (b : ℕ) (g : ℤ) → arabic_french.step_of t m b ≡ live k g → k ≡ arabic_french.next_of t m b
unfolding arabic_french.step_of
next_arabic_french t m k b g e = live_is t b (arabic_french.next_of t m b) k _ g e

end_arabic_french : (t : Lent) (n : ℕ) (m k : ArabicFrenchRecord) (g : ℤ) → SoundFor n n (ArabicFrench m) → arabic_french.step_of t m space ≡ live k g → SoundFor n (n + 1) (ArabicFrench k)
end_arabic_french t n m k g h e =
    let s = arabicFrench-laws.sound_next t m space n k g h.1 e in
    rw (next_arabic_french t m k space g e) (longest_kept n m.current_word_len m.longest_word (alphabetic t space) h.1.word_most h.0, rw (next_arabic_french t m k space g e) at s)

module _ (t : Own) (n : ℕ) where
  pub close_sound : (m : Machine) → SoundFor n n m → Holds (SoundFor n (reach_of m n true)) (close_of t m)
  unfolding close_of reach_of
  close_sound (Utf8 m) o = holds_carried Utf8 (SoundFor n n) (utf-8.close_of m) (ends_holds utf-8.Sound (pos 0) (utf-8.close_of m) (utf_8_still m o))
  close_sound (Iso2022Jp m) o = holds_carried Iso2022Jp (SoundFor n n) (iso2022jp.close_of m) (ends_holds iso2022jp.Sound (pos 0) (iso2022jp.close_of m) (iso2022jp_still m o))
  close_sound (EucKr m) o = holds_carried EucKr (SoundFor n n) (euckr.close_of m) (either (Holds (euckr.Sound n)) (eqb m.lead 0) (λ e. o) (λ e. tt))
  close_sound (Big5 m) o = holds_carried Big5 (SoundFor n n) (big5.close_of m) (either (Holds (big5.Sound n)) (eqb m.lead 0) (λ e. o) (λ e. tt))
  close_sound (Caseless m) o =
      let l = lent_to t in
      holds_carried Caseless (SoundFor n (n + 1)) (caseless.close_of l m) (holds_all (λ (k : CaselessRecord). SoundFor n (n + 1) (Caseless k)) (caseless.close_of l m) (λ (k : CaselessRecord) (g : ℤ) e. end_caseless l n m k g o e))
  close_sound (Logical m) o =
      let l = lent_to t in
      holds_carried Logical (SoundFor n (n + 1)) (logical.close_of l m) (holds_all (λ (k : LogicalRecord). SoundFor n (n + 1) (Logical k)) (logical.close_of l m) (λ (k : LogicalRecord) (g : ℤ) e. end_logical l n m k g o e))
  close_sound (Visual m) o =
      let l = lent_to t in
      holds_carried Visual (SoundFor n (n + 1)) (visual.close_of l m) (holds_all (λ (k : VisualRecord). SoundFor n (n + 1) (Visual k)) (visual.close_of l m) (λ (k : VisualRecord) (g : ℤ) e. end_visual l n m k g o e))
  close_sound (ArabicFrench m) o =
      let l = lent_to t in
      holds_carried ArabicFrench (SoundFor n (n + 1)) (arabic_french.close_of l m) (holds_all (λ (k : ArabicFrenchRecord). SoundFor n (n + 1) (ArabicFrench k)) (arabic_french.close_of l m) (λ (k : ArabicFrenchRecord) (g : ℤ) e. end_arabic_french l n m k g o e))
  close_sound (ShiftJis m) o = holds_carried ShiftJis (SoundFor n n) (shiftJis.close_of m) (ends_holds shiftJis.Sound (pos 0) (shiftJis.close_of m) (shift_jis_still m o))
