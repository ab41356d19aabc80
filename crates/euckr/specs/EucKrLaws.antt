-- Laws of the EUC-KR machine: what a record holds is kept, a byte adds at most five terms, the tests decide, why it drops out.
use Rattle.std.specs.Prelude.{◌≡◌, refl, true, ◌&&◌, List, ℕ, ◌+◌, ◌≤◌, leb, ℤ, pos, nat_abs, length, None}
use Rattle.std.proofs.Common.{arith}
use Rattle.std.proofs.Math.Dec.{eqb}
use borrow.Author.Tests.{leb-true, le-leb, eqb-true, eq-eqb}
use Rattle.laws.specs.Tests.{both, picked}
use Rattle.laws.specs.Answer.{answered, if_fit}
use Rattle.laws.specs.Carried.{Holds}
use Rattle.laws.specs.Run.{Outcome, none, live, run, last_at, WhenNone, Within, alive}
use Rattle.laws.specs.Sizes.{abs_add}
use Rattle.laws.specs.declared.Reason.{Reason}
use Rattle.laws.specs.declared.Reason.TheVariants.{CutAtClose}
use Rattle.octets.specs.Octets.{ascii, letter}
use Rattle.pairs.specs.Pairs.{is_lead_or_none, reason_by, SmallHeld, small_held_b}
use Rattle.pairs.specs.PairsLaws.{handler_lead, held_true, true_held, OfPairs, reason_either}
use Rattle.pairs.specs.declared.Event.{Event}
use Rattle.pairs.specs.declared.Event.TheVariants.{Pending, Point, Two, Error}
use Rattle.laws.specs.Limit.{limit, room}
use Rattle.weights.specs.Weights.{term, per_byte}
use Rattle.lengths.specs.Lengths.{weight_count, euc_kr_count, extra_count}
use Rattle.euckr_decoder.specs.Standard.{layout, points_of, decode_of}
use Rattle.euckr.specs.Scoring.{scale_of, extra_of, is_euc, is_hangul, is_hanja, scored, holds_of, letter_of, inner_of, outer_of, hangul_of, hanja_of, other_of, unit_of, is_user_pair, is_mac_symbol, is_lone, extends, extension_of, after_byte, stray_of, error_of, on_event, Lent, lent, step_of}
use Rattle.euckr.specs.EucKr.{Sound, sound_b, SmallScale, Slight, ready_b, Ready, ran_of, close_of, closed_of}
use Rattle.euckr.specs.Ways.{FewTerms, letter_small, hangul_small, hanja_small, other_small}
use Rattle.euckr.specs.declared.EucKr.{EucKr}
use Rattle.euckr.specs.declared.LatinKorean.{LatinKorean}
use Rattle.euckr.specs.declared.LatinKorean.TheVariants.{AsciiLetter, Hangul, Hanja, Other}
use Rattle.euckr.specs.declared.Scale.{Scale}
use Rattle.euckr.specs.declared.Scored.{Scored}

-- ---- the tests decide
pub sound_true : (n : ℕ) (m : EucKr) → sound_b n m ≡ true → Sound n m
unfolding sound_b
sound_true n m e =
    let a = both (is_lead_or_none m.lead) (leb m.current_word_len n && small_held_b m.held) e in
    let b = both (leb m.current_word_len n) (small_held_b m.held) a.1 in
    record { lead_fits = a.0; word_most = leb-true _ _ b.0; held_small = held_true m.held b.1 }

pub true_sound : (n : ℕ) (m : EucKr) → Sound n m → sound_b n m ≡ true
unfolding sound_b
true_sound n m s = rw (s.lead_fits, le-leb m.current_word_len n s.word_most, true_held m.held s.held_small)

pub sound_more : (n k : ℕ) (m : EucKr) → n ≤ k → Sound n m → Sound k m
sound_more n k m h s = record { lead_fits = s.lead_fits; word_most = omega (arith, s.word_most); held_small = s.held_small }

module _ (index : List ℕ) (extras weights : List ℤ) (m : EucKr) (xs : List ℕ) where
  pub ready_true : ready_b index extras weights m xs ≡ true → Ready index extras weights m xs
  unfolding ready_b
  ready_true e =
      let a = both (sound_b room m) (leb (length xs) limit && (eqb (length index) euc_kr_count && (eqb (length extras) extra_count && eqb (length weights) weight_count))) e in
      let b = both (leb (length xs) limit) (eqb (length index) euc_kr_count && (eqb (length extras) extra_count && eqb (length weights) weight_count)) a.1 in
      let c = both (eqb (length index) euc_kr_count) (eqb (length extras) extra_count && eqb (length weights) weight_count) b.1 in
      let d = both (eqb (length extras) extra_count) (eqb (length weights) weight_count) c.1 in
      record { sound = sound_true room m a.0; short = leb-true _ _ b.0; index_length = eqb-true _ _ c.0; extras_length = eqb-true _ _ d.0; weights_length = eqb-true _ _ d.1 }

  pub true_ready : Ready index extras weights m xs → ready_b index extras weights m xs ≡ true
  unfolding ready_b
  true_ready r = rw (true_sound room m r.sound, le-leb _ _ r.short, eq-eqb _ _ r.index_length, eq-eqb _ _ r.extras_length, eq-eqb _ _ r.weights_length)

  -- what a caller that has tested uses
  pub ran_ready : Ready index extras weights m xs → ran_of index extras weights m xs ≡ answered (last_at (step_of (lent index extras (scale_of weights))) (alive m) xs) (run (step_of (lent index extras (scale_of weights))) (alive m) xs)
  unfolding ran_of
  ran_ready r = if_fit _ _ (true_ready r)

pub closed_ready : (m : EucKr) → Sound room m → closed_of m ≡ answered 0 (close_of m)
unfolding closed_of
closed_ready m s = if_fit _ _ (true_sound room m s)

-- ---- a byte leaves a record that EUC-KR can hold, with a word at most one longer
pub record Fair (n : ℕ) (s : Scored) : Type 0 where
  pub word_most : s.word ≤ n + 1
  pub held_small : SmallHeld s.held

plain_fair : (n : ℕ) (k : LatinKorean) (g : ℤ) → Fair n (scored k 0 None g)
plain_fair n k g = record { word_most = omega arith; held_small = omega arith }

after_sound : (n lead b : ℕ) (s : Scored) → is_lead_or_none lead ≡ true → Fair n s → Holds (Sound (n + 1)) (after_byte lead b s)
after_sound n lead b s e k = record { lead_fits = e; word_most = k.word_most; held_small = k.held_small }

module _ (w : Scale) (small : SmallScale w) (n : ℕ) (m : EucKr) (most : m.current_word_len ≤ n) where
  grown_fair : (k : LatinKorean) (g : ℤ) → Fair n (scored k (m.current_word_len + 1) None g)
  grown_fair k g = record { word_most = omega arith; held_small = omega arith }

  letter_fair : Fair n (letter_of w m)
  unfolding letter_of
  letter_fair = plain_fair n AsciiLetter _

  hangul_fair : (extras : List ℤ) (u b : ℕ) → Fair n (hangul_of w m extras u b)
  unfolding hangul_of inner_of outer_of
  hangul_fair extras u b =
      picked (Fair n) (m.prev_was_euc_range && is_euc b) (grown_fair Hangul _)
      (picked (Fair n) (holds_of m) (record { word_most = omega arith; held_small = small.outer }) (grown_fair Hangul _))

  hanja_fair : (own : ℤ) → Fair n (hanja_of w m own)
  unfolding hanja_of
  hanja_fair own = grown_fair Hanja _

  other_fair : (own : ℤ) → Fair n (other_of m own)
  unfolding other_of
  other_fair own = plain_fair n Other _

  unit_fair : (extras : List ℤ) (u b : ℕ) → Fair n (unit_of w extras m u b)
  unfolding unit_of
  unit_fair extras u b =
      picked (Fair n) (letter u) letter_fair
      (picked (Fair n) (is_hangul u) (hangul_fair extras u b)
      (picked (Fair n) (is_hanja u) (hanja_fair w.hanja)
      (picked (Fair n) (ascii u) (plain_fair n Other (pos 0)) (other_fair w.other))))

  extension_fair : (b : ℕ) → Fair n (extension_of w b)
  unfolding extension_of
  extension_fair b =
      picked (Fair n) (is_lone b) (plain_fair n Other _)
      (picked (Fair n) (letter b) (plain_fair n AsciiLetter _) (plain_fair n Other _))

  module _ (held : SmallHeld m.held) (lead b : ℕ) (fits : is_lead_or_none lead ≡ true) where
    error_sound : (k : ℕ) → Holds (Sound (n + 1)) (error_of w m lead b k)
    unfolding error_of stray_of
    error_sound k =
        picked (Holds (Sound (n + 1))) (is_user_pair m.prev_byte b) (after_sound n lead b (hanja_of w m w.pua) fits (hanja_fair w.pua))
        (picked (Holds (Sound (n + 1))) (is_mac_symbol m.prev_byte b) (after_sound n lead b (other_of m w.mac) fits (other_fair w.mac))
        (picked (Holds (Sound (n + 1))) (extends m.prev_byte b) (after_sound n lead b (extension_of w b) fits (extension_fair b))
        (picked (Holds (Sound (n + 1))) (eqb k 1 && is_lone b) (after_sound n lead b (scored Other 0 None w.extension) fits (plain_fair n Other _)) tt)))

    event_sound : (extras : List ℤ) (e : Event) → Holds (Sound (n + 1)) (on_event w m extras lead b e)
    event_sound extras Pending = record { lead_fits = fits; word_most = omega arith; held_small = held }
    event_sound extras (Point p) = after_sound n lead b (unit_of w extras m p b) fits (unit_fair extras p b)
    event_sound extras (Two p q) = after_sound n lead b (unit_of w extras m p b) fits (unit_fair extras p b)
    event_sound extras (Error k) = error_sound k

-- ---- a byte adds at most five terms
module _ (w : Scale) (small : SmallScale w) (m : EucKr) (held : SmallHeld m.held) where
  extension_small : (b : ℕ) → FewTerms (extension_of w b)
  unfolding extension_of
  extension_small b =
      let e = w.extension in
      picked FewTerms (is_lone b) (omega (arith, abs_add e e, small.extension))
      (picked FewTerms (letter b) (omega (arith, small.extension)) (omega (arith, small.extension)))

  pub error_slight : (lead b k : ℕ) → Slight (error_of w m lead b k)
  unfolding error_of stray_of
  error_slight lead b k =
      picked Slight (is_user_pair m.prev_byte b) (hanja_small w small m held w.pua small.pua)
      (picked Slight (is_mac_symbol m.prev_byte b) (other_small w small m held w.mac small.mac)
      (picked Slight (extends m.prev_byte b) (extension_small b)
      (picked Slight (eqb k 1 && is_lone b) (omega (arith, small.extension)) tt)))

  module _ (extras : List ℤ) (slight : (u : ℕ) → nat_abs (extra_of extras u) ≤ term) where
    unit_small : (u b : ℕ) → FewTerms (unit_of w extras m u b)
    unfolding unit_of
    unit_small u b =
        picked FewTerms (letter u) (letter_small w small m held)
        (picked FewTerms (is_hangul u) (hangul_small w small m held extras u b (slight u))
        (picked FewTerms (is_hanja u) (hanja_small w small m held w.hanja small.hanja)
        (picked FewTerms (ascii u) (omega arith) (other_small w small m held w.other small.other))))

    event_slight : (lead b : ℕ) (e : Event) → Slight (on_event w m extras lead b e)
    event_slight lead b Pending = omega arith
    event_slight lead b (Point p) = unit_small p b
    event_slight lead b (Two p q) = unit_small p b
    event_slight lead b (Error k) = error_slight lead b k

-- ---- a step, in both respects
pub step_sound : (t : Lent) → SmallScale t.scale → (n : ℕ) (m : EucKr) (b : ℕ) → Sound n m → Holds (Sound (n + 1)) (step_of t m b)
unfolding step_of decode_of
step_sound t small n m b s =
    let d = decode_of t.index m.lead b in
    event_sound t.scale small n m s.word_most s.held_small d.lead b (handler_lead layout (points_of t.index) m.lead b) t.extras d.event

pub step_slight : (t : Lent) → SmallScale t.scale → ((u : ℕ) → nat_abs (extra_of t.extras u) ≤ term) → (n : ℕ) (m : EucKr) (b : ℕ) → Sound n m → Slight (step_of t m b)
unfolding step_of
step_slight t small slight n m b s =
    let d = decode_of t.index m.lead b in
    event_slight t.scale small m s.held_small t.extras slight d.lead b d.event

sound_slight : (n : ℕ) (o : Outcome EucKr) → Holds (Sound n) o → Slight o → Within (Sound n) per_byte o
sound_slight n (live m g) p q = (p, q)
sound_slight n (none d) p q = tt

pub step_within : (t : Lent) → SmallScale t.scale → ((u : ℕ) → nat_abs (extra_of t.extras u) ≤ term) → (n : ℕ) (m : EucKr) (b : ℕ) → Sound n m → Within (Sound (n + 1)) per_byte (step_of t m b)
step_within t small slight n m b s = sound_slight (n + 1) (step_of t m b) (step_sound t small n m b s) (step_slight t small slight n m b s)

-- the same of a step that was live
pub turn_sound : (t : Lent) → SmallScale t.scale → (n : ℕ) (m : EucKr) (b : ℕ) (next : EucKr) (g : ℤ) → Sound n m → step_of t m b ≡ live next g → Sound (n + 1) next
turn_sound t small n m b next g s e = rw e at (step_sound t small n m b s)

-- ---- why it drops out: at a byte by the lead before it, at the close as a cut
module _ (w : Scale) (m : EucKr) where
  abbrev ByLead : Outcome EucKr → Type 0
  ByLead o = WhenNone (λ d. d ≡ reason_by m.lead) o

  error_drops : (lead b k : ℕ) → ByLead (error_of w m lead b k)
  unfolding error_of stray_of
  error_drops lead b k =
      picked ByLead (is_user_pair m.prev_byte b) tt
      (picked ByLead (is_mac_symbol m.prev_byte b) tt
      (picked ByLead (extends m.prev_byte b) tt (picked ByLead (eqb k 1 && is_lone b) tt refl)))

  event_drops : (extras : List ℤ) (lead b : ℕ) (e : Event) → ByLead (on_event w m extras lead b e)
  event_drops extras lead b Pending = tt
  event_drops extras lead b (Point p) = tt
  event_drops extras lead b (Two p q) = tt
  event_drops extras lead b (Error k) = error_drops lead b k

pub step_why : (t : Lent) (m : EucKr) (b : ℕ) (d : Reason) → step_of t m b ≡ none d → d ≡ reason_by m.lead
unfolding step_of
step_why t m b r e =
    let d = decode_of t.index m.lead b in
    rw e at (event_drops t.scale m t.extras d.lead b d.event)

pub step_reason : (t : Lent) (m : EucKr) (b : ℕ) (d : Reason) → step_of t m b ≡ none d → OfPairs d
step_reason t m b d e = rw (step_why t m b d e) (reason_either m.lead)

pub close_reason : (m : EucKr) (d : Reason) → close_of m ≡ none d → d ≡ CutAtClose
close_reason m d e =
    let h : WhenNone (λ r. r ≡ CutAtClose) (close_of m) = picked (WhenNone (λ r. r ≡ CutAtClose)) (eqb m.lead 0) tt refl in
    rw e at h
