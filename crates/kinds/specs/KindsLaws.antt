-- A run of one of the nine machines is its own run, and what the code's answers are where the lent lengths, the record and the
-- stretch are fit.
use Rattle.std.specs.Prelude.{◌≡◌, refl, Bool, false, cond, List, ℕ, ◌-◌, ◌*◌, ◌≤◌, eqb, ℤ, pos, length, Result, Ok, Err}
use Rattle.std.proofs.Common.{sym, ◌∙◌}
use Rattle.std.proofs.Math.Path.{ap}
use native.Mathlib.Omega.{arith}
use Rattle.laws.specs.Answer.{Ran, answered, reached, tested, BoundedBy}
use Rattle.laws.specs.Carried.{carried, run_carried, ends_carried}
use Rattle.laws.specs.Limit.{limit, room}
use Rattle.laws.specs.Run.{Outcome, none, live, run, last_at}
use Rattle.laws.specs.declared.Stop.{Stop}
use Rattle.laws.specs.declared.Reason.{Reason}
use Rattle.laws.specs.declared.Stop.TheVariants.{Dropped, Unfit}
use Rattle.laws.specs.Still.{Ends}
use Rattle.laws.specs.Tests.{either}
use Rattle.big5.specs.Big5 as big5
use Rattle.big5.proofs.Big5Laws as big5-laws
use Rattle.big5.specs.Scoring as big5-scoring
use Rattle.big5.specs.declared.Big5.{Big5 as Big5Record}
use Rattle.euckr.specs.EucKr as euckr
use Rattle.euckr.specs.EucKrLaws as euckr-laws
use Rattle.euckr.specs.Scoring as euckr-scoring
use Rattle.euckr.specs.declared.EucKr.{EucKr as EucKrRecord}
use Rattle.iso2022jp.specs.Iso2022Jp as iso2022jp
use Rattle.iso2022jp.specs.Iso2022JpLaws as iso2022jp-laws
use Rattle.iso2022jp.specs.declared.DecoderState.{DecoderState}
use Rattle.iso2022jp.specs.declared.DecoderState.TheVariants as D
use Rattle.iso2022jp.specs.declared.Iso2022Jp.{Iso2022Jp as Iso2022JpRecord}
use Rattle.caseless_script.specs.Caseless as caseless
use Rattle.caseless_script.specs.CaselessLaws as caseless-laws
use Rattle.caseless_script.specs.declared.Caseless.{Caseless as CaselessRecord}
use Rattle.logical.specs.Logical as logical
use Rattle.logical.specs.LogicalLaws as logical-laws
use Rattle.logical.specs.declared.Logical.{Logical as LogicalRecord}
use Rattle.visual.specs.Visual as visual
use Rattle.visual.specs.VisualLaws as visual-laws
use Rattle.visual.specs.declared.Visual.{Visual as VisualRecord}
use Rattle.arabic_french.specs.ArabicFrench as arabic_french
use Rattle.arabic_french.specs.ArabicFrenchLaws as arabicFrench-laws
use Rattle.arabic_french.specs.declared.ArabicFrench.{ArabicFrench as ArabicFrenchRecord}
use Rattle.shift_jis.specs.ShiftJis as shiftJis
use Rattle.shift_jis.specs.ShiftJisLaws as shiftJis-laws
use Rattle.shift_jis.specs.declared.ShiftJis.{ShiftJis as ShiftJisRecord}
use Rattle.utf8.specs.Utf8 as utf-8
use Rattle.utf8.specs.Utf8Laws as utf-8-laws
use Rattle.utf8.specs.declared.Utf8.{Utf8 as Utf8Record}
use Rattle.kinds.specs.Kinds.{place_number, step_of, close_of, ran_as, wrapped, unchanged, ran_of, closed_of, ran_at, Bounded, WeighedIn, Weighed}
use Rattle.kinds.specs.Sound.{SoundFor}
use Rattle.tables.specs.Own.{Own, lent_to, SizedAt}
use Rattle.kinds.specs.declared.machine.Machine.{Machine}
use Rattle.kinds.specs.declared.machine.Machine.TheVariants.{Utf8, Iso2022Jp, EucKr, Big5, Caseless, Logical, Visual, ArabicFrench, ShiftJis}

-- ---- a run of each kind is its own
module _ (t : Own) (s : ℤ) (xs : List ℕ) where
  pub run_utf_8 : (m : Utf8Record) → run (step_of t) (live (Utf8 m) s) xs ≡ carried Utf8 (run utf-8.step_of (live m s) xs)
  unfolding step_of carried
  run_utf_8 m = run_carried Utf8 utf-8.step_of (step_of t) (λ (n : Utf8Record) (b : ℕ). refl) (live m s) xs

  pub run_iso2022jp : (m : Iso2022JpRecord) → run (step_of t) (live (Iso2022Jp m) s) xs ≡ carried Iso2022Jp (run (iso2022jp.step_of t.index) (live m s) xs)
  unfolding step_of carried
  run_iso2022jp m = run_carried Iso2022Jp (iso2022jp.step_of t.index) (step_of t) (λ (n : Iso2022JpRecord) (b : ℕ). refl) (live m s) xs

  pub run_euckr : (m : EucKrRecord) → run (step_of t) (live (EucKr m) s) xs ≡ carried EucKr (run (euckr-scoring.step_of (euckr-scoring.lent t.index t.extras (euckr-scoring.scale_of t.weights))) (live m s) xs)
  unfolding step_of carried
  run_euckr m = run_carried EucKr (euckr-scoring.step_of (euckr-scoring.lent t.index t.extras (euckr-scoring.scale_of t.weights))) (step_of t) (λ (n : EucKrRecord) (b : ℕ). refl) (live m s) xs

  pub run_big5 : (m : Big5Record) → run (step_of t) (live (Big5 m) s) xs ≡ carried Big5 (run (big5-scoring.step_of (big5-scoring.lent t.index (big5-scoring.scale_of t.weights))) (live m s) xs)
  unfolding step_of carried
  run_big5 m = run_carried Big5 (big5-scoring.step_of (big5-scoring.lent t.index (big5-scoring.scale_of t.weights))) (step_of t) (λ (n : Big5Record) (b : ℕ). refl) (live m s) xs

  pub run_caseless : (m : CaselessRecord) → run (step_of t) (live (Caseless m) s) xs ≡ carried Caseless (run (caseless.step_of (lent_to t)) (live m s) xs)
  unfolding step_of carried
  run_caseless m = run_carried Caseless (caseless.step_of (lent_to t)) (step_of t) (λ (n : CaselessRecord) (b : ℕ). refl) (live m s) xs

  pub run_logical : (m : LogicalRecord) → run (step_of t) (live (Logical m) s) xs ≡ carried Logical (run (logical.step_of (lent_to t)) (live m s) xs)
  unfolding step_of carried
  run_logical m = run_carried Logical (logical.step_of (lent_to t)) (step_of t) (λ (n : LogicalRecord) (b : ℕ). refl) (live m s) xs

  pub run_visual : (m : VisualRecord) → run (step_of t) (live (Visual m) s) xs ≡ carried Visual (run (visual.step_of (lent_to t)) (live m s) xs)
  unfolding step_of carried
  run_visual m = run_carried Visual (visual.step_of (lent_to t)) (step_of t) (λ (n : VisualRecord) (b : ℕ). refl) (live m s) xs

  pub run_arabic_french : (m : ArabicFrenchRecord) → run (step_of t) (live (ArabicFrench m) s) xs ≡ carried ArabicFrench (run (arabic_french.step_of (lent_to t)) (live m s) xs)
  unfolding step_of carried
  run_arabic_french m = run_carried ArabicFrench (arabic_french.step_of (lent_to t)) (step_of t) (λ (n : ArabicFrenchRecord) (b : ℕ). refl) (live m s) xs

  pub run_shift_jis : (m : ShiftJisRecord) → run (step_of t) (live (ShiftJis m) s) xs ≡ carried ShiftJis (run (shiftJis.step_of t.index) (live m s) xs)
  unfolding step_of carried
  run_shift_jis m = run_carried ShiftJis (shiftJis.step_of t.index) (step_of t) (λ (n : ShiftJisRecord) (b : ℕ). refl) (live m s) xs

-- ---- an answer of each kind is that of its outcome
scored_answer : {S : Type 0} (wrap : S → Machine) (of : Ran S → Ran Machine) → ((m : S) (s : ℤ) → of (Ok (m, s)) ≡ Ok (wrap m, s)) → ((d : Reason) (at : ℕ) → of (Err (Dropped d at)) ≡ Err (Dropped d at)) → (at : ℕ) (o : Outcome S) → of (answered at o) ≡ ran_as at (carried wrap o)
unfolding carried
scored_answer wrap of live_is none_is at (none d) = none_is d at
scored_answer wrap of live_is none_is at (live m s) = live_is m s

wrapped_answer : {S : Type 0} (wrap : S → Machine) (at : ℕ) (o : Outcome S) → wrapped wrap (answered at o) ≡ ran_as at (carried wrap o)
wrapped_answer {S = S} wrap at o = scored_answer wrap (wrapped wrap) (λ (m : S) (s : ℤ). refl) (λ (d : Reason) (i : ℕ). refl) at o

-- of a kind whose score never changes
abbrev still : {S : Type 0} → (S → Machine) → Result S Stop → Ran Machine
still wrap r = wrapped wrap (unchanged r)

still_answer : {S : Type 0} (P : S → Type 0) (wrap : S → Machine) (answer : ℕ → Outcome S → Ran Machine) → ((at : ℕ) (d : Reason) → answer at (none d) ≡ Err (Dropped d at)) → ((at : ℕ) (m : S) (s : ℤ) → answer at (live m s) ≡ Ok (wrap m, pos 0)) → (at : ℕ) (o : Outcome S) → Ends P (pos 0) o → answer at o ≡ ran_as at (carried wrap o)
unfolding carried
still_answer P wrap answer none_is live_is at (none d) h = none_is at d
still_answer P wrap answer none_is live_is at (live m s) h = live_is at m s ∙ ap (λ (k : ℤ). Ok (wrap m, k)) (sym h.1)

reached_answer : {S : Type 0} (P : S → Type 0) (wrap : S → Machine) (at : ℕ) (o : Outcome S) → Ends P (pos 0) o → still wrap (reached at o) ≡ ran_as at (carried wrap o)
reached_answer {S = S} P wrap at o h = still_answer P wrap (λ (i : ℕ) (p : Outcome S). still wrap (reached i p)) (λ (i : ℕ) (d : Reason). refl) (λ (i : ℕ) (m : S) (s : ℤ). refl) at o h

-- ---- the ends that change no score
pub utf_8_still : (m : Utf8Record) → utf-8.Sound m → Ends utf-8.Sound (pos 0) (utf-8.close_of m)
unfolding utf-8.close_of
utf_8_still m o = either (Ends utf-8.Sound (pos 0)) (eqb m.need 0) (λ e. (o, refl)) (λ e. tt)

iso2022jp_still_in : (s : DecoderState) (m : Iso2022JpRecord) → iso2022jp.Sound m → Ends iso2022jp.Sound (pos 0) (iso2022jp.close_in s m)
unfolding iso2022jp.close_in
iso2022jp_still_in D.Ascii m o = (o, refl)
iso2022jp_still_in D.Roman m o = (o, refl)
iso2022jp_still_in D.Katakana m o = (o, refl)
iso2022jp_still_in D.LeadByte m o = (o, refl)
iso2022jp_still_in D.TrailByte m o = tt
iso2022jp_still_in D.EscapeStart m o = tt
iso2022jp_still_in D.Escape m o = tt

pub iso2022jp_still : (m : Iso2022JpRecord) → iso2022jp.Sound m → Ends iso2022jp.Sound (pos 0) (iso2022jp.close_of m)
iso2022jp_still m o = iso2022jp_still_in m.state m o

pub shift_jis_still : (m : ShiftJisRecord) → shiftJis.Sound m → Ends shiftJis.Sound (pos 0) (shiftJis.close_of m)
unfolding shiftJis.close_of
shift_jis_still m o = either (Ends shiftJis.Sound (pos 0)) (eqb m.lead 0) (λ e. (o, refl)) (λ e. tt)

-- a machine's own answer to a stretch is the answer of the nine as one
own_run : {S : Type 0} (wrap : S → Machine) (inner : S → ℕ → Outcome S) (outer : Machine → ℕ → Outcome Machine) → ((m : S) (b : ℕ) → outer (wrap m) b ≡ carried wrap (inner m b)) → (m : S) (xs : List ℕ) → ran_as (last_at inner (live m (pos 0)) xs) (carried wrap (run inner (live m (pos 0)) xs)) ≡ ran_as (last_at outer (live (wrap m) (pos 0)) xs) (run outer (live (wrap m) (pos 0)) xs)
unfolding carried
own_run wrap inner outer same m xs =
    ap (λ (o : Outcome Machine). ran_as (last_at inner (live m (pos 0)) xs) o) (sym (run_carried wrap inner outer same (live m (pos 0)) xs)) ∙ ap (λ (i : ℕ). ran_as (i - 1) (run outer (live (wrap m) (pos 0)) xs)) (sym (ends_carried wrap inner outer same (live m (pos 0)) xs))

module _ (t : Own) where
  -- ---- a stretch: what the code answers is the outcome of the run, and where it ends
  module _ (xs : List ℕ) (short : length xs ≤ limit) where
    pub ran_fit : (m : Machine) → SizedAt (place_number m) t → SoundFor limit limit m → ran_of t m xs ≡ ran_as (last_at (step_of t) (live m (pos 0)) xs) (run (step_of t) (live m (pos 0)) xs)
    unfolding ran_of step_of
    ran_fit (Utf8 m) z o =
        ap (still Utf8) (utf-8-laws.ran_ready m xs (record { sound = o; short = short })) ∙ (reached_answer utf-8.Sound Utf8 _ (run utf-8.step_of (live m (pos 0)) xs) (utf-8-laws.run_keeps m (pos 0) xs o) ∙ own_run Utf8 utf-8.step_of (step_of t) (λ x b. refl) m xs)
    ran_fit (Iso2022Jp m) z o =
        ap (still Iso2022Jp) (iso2022jp-laws.ran_ready t.index m xs (record { sound = o; sized = z; short = short })) ∙ (reached_answer iso2022jp.Sound Iso2022Jp _ (run (iso2022jp.step_of t.index) (live m (pos 0)) xs) (iso2022jp-laws.run_keeps t.index m (pos 0) xs o) ∙ own_run Iso2022Jp (iso2022jp.step_of t.index) (step_of t) (λ x b. refl) m xs)
    ran_fit (EucKr m) z o =
        ap (wrapped EucKr) (euckr-laws.ran_ready t.index t.extras t.weights m xs (record { sound = euckr-laws.sound_more limit room m (omega arith) o; short = short; index_length = z.0; extras_length = z.1.0; weights_length = z.1.1 })) ∙ (wrapped_answer EucKr _ _ ∙ own_run EucKr (euckr-scoring.step_of (euckr-scoring.lent t.index t.extras (euckr-scoring.scale_of t.weights))) (step_of t) (λ x b. refl) m xs)
    ran_fit (Big5 m) z o =
        ap (wrapped Big5) (big5-laws.ran_ready t.index t.weights m xs (record { sound = o; short = short; index_length = z.0; weights_length = z.1 })) ∙ (wrapped_answer Big5 _ _ ∙ own_run Big5 (big5-scoring.step_of (big5-scoring.lent t.index (big5-scoring.scale_of t.weights))) (step_of t) (λ x b. refl) m xs)
    ran_fit (Caseless m) z o = ap (wrapped Caseless) (caseless-laws.ran_fit (lent_to t) m xs (record { sized = z; sound = caseless-laws.sound_more limit room m (omega arith) o.1; short = short })) ∙ (wrapped_answer Caseless _ _ ∙ own_run Caseless (caseless.step_of (lent_to t)) (step_of t) (λ x b. refl) m xs)
    ran_fit (Logical m) z o = ap (wrapped Logical) (logical-laws.ran_fit (lent_to t) m xs (record { sized = z; sound = logical-laws.sound_more limit room m (omega arith) o.1.1; short = short })) ∙ (wrapped_answer Logical _ _ ∙ own_run Logical (logical.step_of (lent_to t)) (step_of t) (λ x b. refl) m xs)
    ran_fit (Visual m) z o = ap (wrapped Visual) (visual-laws.ran_fit (lent_to t) m xs (record { sized = z; sound = visual-laws.sound_more limit room m (omega arith) o.1; short = short })) ∙ (wrapped_answer Visual _ _ ∙ own_run Visual (visual.step_of (lent_to t)) (step_of t) (λ x b. refl) m xs)
    ran_fit (ArabicFrench m) z o = ap (wrapped ArabicFrench) (arabicFrench-laws.ran_fit (lent_to t) m xs (record { sized = z; sound = arabicFrench-laws.sound_more limit room m (omega arith) o.1; short = short })) ∙ (wrapped_answer ArabicFrench _ _ ∙ own_run ArabicFrench (arabic_french.step_of (lent_to t)) (step_of t) (λ x b. refl) m xs)
    ran_fit (ShiftJis m) z o =
        ap (still ShiftJis) (shiftJis-laws.ran_ready t.index m xs (record { sound = o; sized = z; short = short })) ∙ (reached_answer shiftJis.Sound ShiftJis _ (run (shiftJis.step_of t.index) (live m (pos 0)) xs) (shiftJis-laws.run_keeps t.index m (pos 0) xs o) ∙ own_run ShiftJis (shiftJis.step_of t.index) (step_of t) (λ x b. refl) m xs)

  -- ---- the end of the stream, after a stretch
  pub closed_fit : (m : Machine) → SizedAt (place_number m) t → SoundFor (2 * limit) (2 * limit) m → closed_of t m ≡ ran_as 0 (close_of t m)
  unfolding closed_of close_of
  closed_fit (Utf8 m) z o = ap (still Utf8) (utf-8-laws.closed_ready m o) ∙ reached_answer utf-8.Sound Utf8 0 (utf-8.close_of m) (utf_8_still m o)
  closed_fit (Iso2022Jp m) z o = ap (still Iso2022Jp) (iso2022jp-laws.closed_ready m o) ∙ reached_answer iso2022jp.Sound Iso2022Jp 0 (iso2022jp.close_of m) (iso2022jp_still m o)
  closed_fit (EucKr m) z o = ap (wrapped EucKr) (euckr-laws.closed_ready m (euckr-laws.sound_more (2 * limit) room m (omega arith) o)) ∙ wrapped_answer EucKr 0 (euckr.close_of m)
  closed_fit (Big5 m) z o = ap (wrapped Big5) (big5-laws.closed_ready m (big5-laws.sound_any (2 * limit) limit m o)) ∙ wrapped_answer Big5 0 (big5.close_of m)
  closed_fit (Caseless m) z o = ap (wrapped Caseless) (caseless-laws.closed_fit (lent_to t) m (record { sized = z; sound = caseless-laws.sound_more (2 * limit) room m (omega arith) o.1; short = omega arith })) ∙ wrapped_answer Caseless 0 _
  closed_fit (Logical m) z o = ap (wrapped Logical) (logical-laws.closed_fit (lent_to t) m (record { sized = z; sound = logical-laws.sound_more (2 * limit) room m (omega arith) o.1.1; short = omega arith })) ∙ wrapped_answer Logical 0 _
  closed_fit (Visual m) z o = ap (wrapped Visual) (visual-laws.closed_fit (lent_to t) m (record { sized = z; sound = visual-laws.sound_more (2 * limit) room m (omega arith) o.1; short = omega arith })) ∙ wrapped_answer Visual 0 _
  closed_fit (ArabicFrench m) z o = ap (wrapped ArabicFrench) (arabicFrench-laws.closed_fit (lent_to t) m (record { sized = z; sound = arabicFrench-laws.sound_more (2 * limit) room m (omega arith) o.1; short = omega arith })) ∙ wrapped_answer ArabicFrench 0 _
  closed_fit (ShiftJis m) z o = ap (still ShiftJis) (shiftJis-laws.closed_ready m o) ∙ reached_answer shiftJis.Sound ShiftJis 0 (shiftJis.close_of m) (shift_jis_still m o)

-- ---- a machine of another kind than the one that is run alone
pub unfit_at : (k : ℕ) (o : Own) (m : Machine) (xs : List ℕ) → false ≡ eqb (place_number m) k → Err Unfit ≡ ran_at k o m xs
unfit_at k o m xs h = ap (λ (b : Bool). cond b (ran_of o m xs) (Err Unfit)) h

-- ---- sizes and weights, as each kind's own answer has them
module _ {S : Type 0} (wrap : S → Machine) where
  pub bounded_wrapped : (c : ℕ) (r : Ran S) → BoundedBy c r → Bounded c (wrapped wrap r)
  bounded_wrapped c (Ok a) h = h
  bounded_wrapped c (Err e) h = tt

  pub weighed_wrapped : (m : Machine) (w : List ℤ) (r : Ran S) → Weighed m w r → Weighed m w (wrapped wrap r)
  weighed_wrapped m w (Ok a) h = h
  weighed_wrapped m w (Err e) h = tt

pub bounded_unchanged : {S : Type 0} (c : ℕ) (r : Result S Stop) → BoundedBy c (unchanged r)
bounded_unchanged c (Ok m) = omega arith
bounded_unchanged c (Err e) = tt

pub weighed_other : {S : Type 0} (m : Machine) (w : List ℤ) → WeighedIn m w → (r : Ran S) → Weighed m w r
weighed_other m w h (Ok a) = h
weighed_other m w h (Err e) = tt

module _ (c : ℕ) where
  -- the end of the stream changes no score of it
  pub closed_euckr : (m : EucKrRecord) → BoundedBy c (euckr.closed_of m)
  unfolding euckr.closed_of tested
  closed_euckr m =
      either (BoundedBy c) (euckr.sound_b room m)
      (λ e. either (λ (o : Outcome EucKrRecord). BoundedBy c (answered 0 o)) (eqb m.lead 0) (λ e. omega arith) (λ e. tt))
      (λ e. tt)

  -- the end of the stream changes no score of it
  pub closed_big5 : (m : Big5Record) → BoundedBy c (big5.closed_of m)
  unfolding big5.closed_of tested
  closed_big5 m =
      either (BoundedBy c) (big5.sound_b limit m)
      (λ e. either (λ (o : Outcome Big5Record). BoundedBy c (answered 0 o)) (eqb m.lead 0) (λ e. omega arith) (λ e. tt))
      (λ e. tt)
