-- Laws of the Big5 machine: what a record holds is kept, a byte adds at most five terms, the tests decide, why it drops out.
use Rattle.std.specs.Prelude.{◌≡◌, refl, true, ◌&&◌, List, ℕ, ◌+◌, ◌≤◌, leb, ltb, ℤ, pos, nat_abs, ◌+ℤ◌, length, None}
use Rattle.std.proofs.Common.{arith}
use Rattle.std.proofs.Math.Dec.{eqb}
use borrow.Author.Tests.{leb-true, le-leb, eqb-true, eq-eqb}
use Rattle.laws.specs.Tests.{both, picked}
use Rattle.laws.specs.Answer.{answered, if_fit}
use Rattle.laws.specs.Run.{Outcome, none, live, run, last_at, WhenNone, Within, alive}
use Rattle.laws.specs.Sizes.{abs_add}
use Rattle.laws.specs.declared.Reason.{Reason}
use Rattle.laws.specs.declared.Reason.TheVariants.{CutAtClose}
use Rattle.octets.specs.Octets.{ascii, letter}
use Rattle.pairs.specs.Pairs.{is_lead_or_none, reason_by, released_of, SmallHeld, small_held_b}
use Rattle.pairs.specs.PairsLaws.{handler_lead, held_true, true_held, OfPairs, reason_either}
use Rattle.pairs.specs.declared.Event.{Event}
use Rattle.pairs.specs.declared.Event.TheVariants.{Pending, Point, Two, Error}
use Rattle.laws.specs.Limit.{limit}
use Rattle.weights.specs.Weights.{term, per_byte}
use Rattle.lengths.specs.Lengths.{weight_count, big5_count}
use Rattle.big5_decoder.specs.Standard.{layout, points_of, decode_of}
use Rattle.big5.specs.Scoring.{scale_of, is_hanzi, is_distinct, beside_of, beside_hanzi, scored, holds_of, hanzi_weight, letter_of, hanzi_of, other_of, unit_of, point_of, unmapped_of, extension_of, is_pair, extends, after_byte, stray_of, error_of, on_event, Lent, lent, step_of}
use Rattle.big5.specs.Big5.{Sound, sound_b, SmallScale, ready_b, Ready, ran_of, close_of, closed_of}
use Rattle.big5.specs.Ways.{beside_small, hanzi_small}
use Rattle.big5.specs.declared.Big5.{Big5}
use Rattle.big5.specs.declared.LatinCj.{LatinCj}
use Rattle.big5.specs.declared.LatinCj.TheVariants.{AsciiLetter, Cj, Other}
use Rattle.big5.specs.declared.Scale.{Scale}
use Rattle.big5.specs.declared.Scored.{Scored}

-- ---- the tests decide
pub sound_true : (n : ℕ) (m : Big5) → sound_b n m ≡ true → Sound n m
unfolding sound_b
sound_true n m e = let h = both (is_lead_or_none m.lead) (small_held_b m.held) e in record { lead_fits = h.0; held_small = held_true m.held h.1 }

pub true_sound : (n : ℕ) (m : Big5) → Sound n m → sound_b n m ≡ true
unfolding sound_b
true_sound n m s = rw (s.lead_fits, true_held m.held s.held_small)

-- Big5 counts nothing, so the number of bytes does not matter
pub sound_any : (n k : ℕ) (m : Big5) → Sound n m → Sound k m
sound_any n k m s = record { lead_fits = s.lead_fits; held_small = s.held_small }

module _ (index : List ℕ) (weights : List ℤ) (m : Big5) (xs : List ℕ) where
  pub ready_true : ready_b index weights m xs ≡ true → Ready index weights m xs
  unfolding ready_b
  ready_true e =
      let a = both (sound_b limit m) (leb (length xs) limit && (eqb (length index) big5_count && eqb (length weights) weight_count)) e in
      let b = both (leb (length xs) limit) (eqb (length index) big5_count && eqb (length weights) weight_count) a.1 in
      let c = both (eqb (length index) big5_count) (eqb (length weights) weight_count) b.1 in
      record { sound = sound_true limit m a.0; short = leb-true _ _ b.0; index_length = eqb-true _ _ c.0; weights_length = eqb-true _ _ c.1 }

  pub true_ready : Ready index weights m xs → ready_b index weights m xs ≡ true
  unfolding ready_b
  true_ready r = rw (true_sound limit m r.sound, le-leb _ _ r.short, eq-eqb _ _ r.index_length, eq-eqb _ _ r.weights_length)

  -- what a caller that has tested uses
  pub ran_ready : Ready index weights m xs → ran_of index weights m xs ≡ answered (last_at (step_of (lent index (scale_of weights))) (alive m) xs) (run (step_of (lent index (scale_of weights))) (alive m) xs)
  unfolding ran_of
  ran_ready r = if_fit _ _ (true_ready r)

pub closed_ready : (m : Big5) → Sound limit m → closed_of m ≡ answered 0 (close_of m)
unfolding closed_of
closed_ready m s = if_fit _ _ (true_sound limit m s)

-- ---- each byte adds at most five terms, and leaves a record that Big5 can hold
pub record Fair (s : Scored) : Type 0 where
  pub held_small : SmallHeld s.held
  pub gain_small : nat_abs s.gain ≤ per_byte

plain_fair : (k : LatinCj) (g : ℤ) → nat_abs g ≤ per_byte → Fair (scored k None g)
plain_fair k g h = record { held_small = omega arith; gain_small = h }

after_within : (n lead b : ℕ) (s : Scored) → is_lead_or_none lead ≡ true → Fair s → Within (Sound n) per_byte (after_byte lead b s)
after_within n lead b s e f = (record { lead_fits = e; held_small = f.held_small }, f.gain_small)

module _ (w : Scale) (small : SmallScale w) (m : Big5) (held : SmallHeld m.held) where
  beside_letter : (k : LatinCj) → nat_abs (beside_hanzi w k) ≤ term
  beside_letter AsciiLetter = omega arith
  beside_letter Cj = small.adjacency
  beside_letter Other = omega arith

  letter_fair : Fair (letter_of w m)
  unfolding letter_of
  letter_fair = plain_fair AsciiLetter (beside_hanzi w m.prev) (omega (arith, beside_letter m.prev))

  hanzi_fair : (own : ℤ) → nat_abs own ≤ term → Fair (hanzi_of w m own)
  unfolding hanzi_of
  hanzi_fair own h =
      let a = released_of m.held in
      let b = beside_of w m.prev in
      let p = abs_add a b in
      let q = beside_small w small m.prev in
      picked Fair (holds_of m) (record { held_small = h; gain_small = omega (arith, p, q, held) }) (plain_fair Cj (a +ℤ b +ℤ own) (omega (arith, abs_add (a +ℤ b) own, p, q, held)))

  other_fair : (own : ℤ) → nat_abs own ≤ term → Fair (other_of m own)
  unfolding other_of
  other_fair own h = plain_fair Other (released_of m.held +ℤ own) (omega (arith, abs_add (released_of m.held) own, held))

  unit_fair : (u : ℕ) → Fair (unit_of w m u)
  unfolding unit_of
  unit_fair u =
      picked Fair (letter u) letter_fair
      (picked Fair (is_hanzi u) (hanzi_fair (hanzi_weight w m.prev_byte) (hanzi_small w small m.prev_byte))
      (picked Fair (is_distinct u) (other_fair w.punctuation small.punctuation)
      (picked Fair (ascii u) (plain_fair Other (pos 0) (omega arith)) (other_fair w.other small.other))))

  point_fair : (p : ℕ) → Fair (point_of w m p)
  unfolding point_of
  point_fair p = picked Fair (ltb p 0x10000) (unit_fair p) (hanzi_fair w.hanzi small.hanzi)

  unmapped_fair : Fair (unmapped_of w m)
  unfolding unmapped_of
  unmapped_fair =
      let a = released_of m.held in
      let b = beside_of w m.prev in
      plain_fair Cj (a +ℤ w.pua +ℤ b) (omega (arith, abs_add (a +ℤ w.pua) b, abs_add a w.pua, beside_small w small m.prev, small.pua, held))

  extension_fair : (b : ℕ) → Fair (extension_of w b)
  unfolding extension_of
  extension_fair b =
      let e = w.extension in
      picked Fair (eqb b 0xFF) (plain_fair Other (e +ℤ e) (omega (arith, abs_add e e, small.extension)))
      (picked Fair (letter b) (plain_fair AsciiLetter e (omega (arith, small.extension))) (plain_fair Other e (omega (arith, small.extension))))

  module _ (n lead b : ℕ) (fits : is_lead_or_none lead ≡ true) where
    stray_within : (k : ℕ) → Within (Sound n) per_byte (stray_of w m lead b k)
    unfolding stray_of
    stray_within k =
        picked (Within (Sound n) per_byte) (extends m.prev_byte b) (after_within n lead b (extension_of w b) fits (extension_fair b))
        (picked (Within (Sound n) per_byte) (eqb k 1 && eqb b 0xFF) (after_within n lead b (scored Other None w.extension) fits (plain_fair Other w.extension (omega (arith, small.extension)))) tt)

    error_within : (k : ℕ) → Within (Sound n) per_byte (error_of w m lead b k)
    unfolding error_of
    error_within k = picked (Within (Sound n) per_byte) (is_pair m.prev_byte b) (after_within n lead b (unmapped_of w m) fits unmapped_fair) (stray_within k)

    event_within : (e : Event) → Within (Sound n) per_byte (on_event w m lead b e)
    event_within Pending = (record { lead_fits = fits; held_small = held }, omega arith)
    event_within (Point p) = after_within n lead b (point_of w m p) fits (point_fair p)
    event_within (Two p q) = after_within n lead b (other_of m w.other) fits (other_fair w.other small.other)
    event_within (Error k) = error_within k

pub step_within : (t : Lent) → SmallScale t.scale → (n : ℕ) (m : Big5) (b : ℕ) → Sound n m → Within (Sound (n + 1)) per_byte (step_of t m b)
unfolding step_of decode_of
step_within t small n m b s =
    let d = decode_of t.index m.lead b in
    event_within t.scale small m s.held_small (n + 1) d.lead b (handler_lead layout (points_of t.index) m.lead b) d.event

-- the same of a step that was live
pub turn_within : (t : Lent) → SmallScale t.scale → (n : ℕ) (m : Big5) (b : ℕ) (next : Big5) (g : ℤ) → Sound n m → step_of t m b ≡ live next g → Sound (n + 1) next × (nat_abs g ≤ per_byte)
turn_within t small n m b next g s e = rw e at (step_within t small n m b s)

-- ---- why it drops out: at a byte by the lead before it, at the close as a cut
module _ (w : Scale) (m : Big5) where
  abbrev ByLead : Outcome Big5 → Type 0
  ByLead o = WhenNone (λ d. d ≡ reason_by m.lead) o

  error_drops : (lead b k : ℕ) → ByLead (error_of w m lead b k)
  unfolding error_of stray_of
  error_drops lead b k =
      picked ByLead (is_pair m.prev_byte b) tt
      (picked ByLead (extends m.prev_byte b) tt (picked ByLead (eqb k 1 && eqb b 0xFF) tt refl))

  event_drops : (lead b : ℕ) (e : Event) → ByLead (on_event w m lead b e)
  event_drops lead b Pending = tt
  event_drops lead b (Point p) = tt
  event_drops lead b (Two p q) = tt
  event_drops lead b (Error k) = error_drops lead b k

pub step_why : (t : Lent) (m : Big5) (b : ℕ) (d : Reason) → step_of t m b ≡ none d → d ≡ reason_by m.lead
unfolding step_of
step_why t m b r e =
    let d = decode_of t.index m.lead b in
    rw e at (event_drops t.scale m d.lead b d.event)

pub step_reason : (t : Lent) (m : Big5) (b : ℕ) (d : Reason) → step_of t m b ≡ none d → OfPairs d
step_reason t m b d e = rw (step_why t m b d e) (reason_either m.lead)

pub close_reason : (m : Big5) (d : Reason) → close_of m ≡ none d → d ≡ CutAtClose
close_reason m d e =
    let h : WhenNone (λ r. r ≡ CutAtClose) (close_of m) = picked (WhenNone (λ r. r ≡ CutAtClose)) (eqb m.lead 0) tt refl in
    rw e at h
