-- When a score is held: only after a lead that holds, where the kind before is not Hangul; and it is the score of a Hangul
-- outside the EUC range. A lead leaves it as it was; every other byte releases or discards it.
use Rattle.std.proofs.Math.Path.{◌≡◌, refl}
use Rattle.std.specs.Prelude.{Bool, true, false, cond, not, ◌&&◌, List, ◌⊎◌, ℕ, ◌+◌, eqb, ℤ, pos, ◌+ℤ◌, None, Some}
use Rattle.std.proofs.Math.Logic.{inl, inr}
use Rattle.std.proofs.Common.{arith}
use borrow.Author.Tests.{not-true, eq-eqb}
use Rattle.laws.specs.Tests.{both, picked}
use Rattle.laws.specs.Run.{Outcome, none, live}
use Rattle.laws.specs.declared.Reason.{Reason}
use Rattle.octets.specs.Octets.{ascii, letter}
use Rattle.pairs.specs.Pairs.{is_held_lead, reason_by}
use Rattle.pairs.specs.declared.Event.{Event}
use Rattle.pairs.specs.declared.Event.TheVariants.{Pending, Point, Two, Error}
use Rattle.euckr_decoder.specs.Standard.{decode_of}
use Rattle.euckr.specs.Scoring.{is_euc, is_hangul, is_hanja, is_after_hangul, scored, holds_of, letter_of, around_of, inner_of, outer_of, hangul_of, hanja_of, other_of, unit_of, is_user_pair, is_mac_symbol, is_lone, extends, extension_of, after_byte, stray_of, error_of, on_event, Lent, step_of}
use Rattle.euckr.specs.EucKr.{close_of}
use Rattle.euckr.specs.declared.EucKr.{EucKr}
use Rattle.euckr.specs.declared.LatinKorean.{LatinKorean}
use Rattle.euckr.specs.declared.LatinKorean.TheVariants.{AsciiLetter, Hangul, Hanja, Other}
use Rattle.euckr.specs.declared.Scale.{Scale}
use Rattle.euckr.specs.declared.Scored.{Scored}

-- k is held anew: why
pub record Why (w : Scale) (m : EucKr) (k : ℤ) : Type 0 where
  pub not_after_hangul : is_after_hangul m.prev ≡ false
  pub after_lead : is_held_lead m.prev_byte ≡ true
  pub of_hangul : k ≡ w.outer

module _ (w : Scale) (m : EucKr) where
  Whys : Scored → Type 0
  Whys s = (k : ℤ) → s.held ≡ Some k → Why w m k

  why_not : (kind : LatinKorean) (n : ℕ) (g : ℤ) → Whys (scored kind n None g)
  unfolding Whys
  why_not kind n g k e = let z : ◌≡◌ {A = ℕ} 0 1 = cc in absurd (omega arith)

  why_held : (n : ℕ) (g : ℤ) → holds_of m ≡ true → Whys (scored Hangul n (Some w.outer) g)
  unfolding Whys holds_of
  why_held n g h k e =
      let a = both (not (is_after_hangul m.prev)) (is_held_lead m.prev_byte) h in
      let f : k ≡ w.outer = cc in
      record { not_after_hangul = not-true (is_after_hangul m.prev) a.0; after_lead = a.1; of_hangul = f }

  outer_pick : (t : Bool) (n : ℕ) (g h : ℤ) → holds_of m ≡ t → Whys (cond t (scored Hangul n (Some w.outer) g) (scored Hangul n None h))
  outer_pick true n g h e = why_held n g e
  outer_pick false n g h e = why_not Hangul n h

  why_outer : Whys (outer_of w m)
  unfolding outer_of
  why_outer = outer_pick (holds_of m) (m.current_word_len + 1) (around_of w m) (around_of w m +ℤ w.outer) refl

  why_hangul : (extras : List ℤ) (u b : ℕ) → Whys (hangul_of w m extras u b)
  unfolding hangul_of inner_of
  why_hangul extras u b = picked Whys (m.prev_was_euc_range && is_euc b) (why_not Hangul _ _) why_outer

  why_unit : (extras : List ℤ) (u b : ℕ) → Whys (unit_of w extras m u b)
  unfolding unit_of letter_of other_of hanja_of
  why_unit extras u b =
      picked Whys (letter u) (why_not AsciiLetter 0 _)
      (picked Whys (is_hangul u) (why_hangul extras u b)
      (picked Whys (is_hanja u) (why_not Hanja _ _)
      (picked Whys (ascii u) (why_not Other 0 (pos 0)) (why_not Other 0 _))))

  why_extension : (b : ℕ) → Whys (extension_of w b)
  unfolding extension_of
  why_extension b =
      picked Whys (is_lone b) (why_not Other 0 _)
      (picked Whys (letter b) (why_not AsciiLetter 0 _) (why_not Other 0 _))

  -- ---- of a step: a score that is held was so already, and the byte is a lead, or it is held anew
  WhyOut : Event → Outcome EucKr → Type 0
  WhyOut v (none d) = Unit {0}
  WhyOut v (live n g) = (k : ℤ) → n.held ≡ Some k → ((v ≡ Pending) × (m.held ≡ Some k)) ⊎ Why w m k

  why_after : (v : Event) (lead b : ℕ) (s : Scored) → Whys s → WhyOut v (after_byte lead b s)
  unfolding Whys WhyOut
  why_after v lead b s h k e = inr (h k e)

  why_none : (v : Event) (d : Reason) → WhyOut v (none d)
  unfolding WhyOut
  why_none v d = tt

  why_error : (lead b n : ℕ) → WhyOut (Error n) (error_of w m lead b n)
  unfolding error_of stray_of hanja_of other_of
  why_error lead b n =
      let v = Error n in
      picked (WhyOut v) (is_user_pair m.prev_byte b) (why_after v lead b (hanja_of w m w.pua) (why_not Hanja _ _))
      (picked (WhyOut v) (is_mac_symbol m.prev_byte b) (why_after v lead b (other_of m w.mac) (why_not Other 0 _))
      (picked (WhyOut v) (extends m.prev_byte b) (why_after v lead b (extension_of w b) (why_extension b))
      (picked (WhyOut v) (eqb n 1 && is_lone b) (why_after v lead b (scored Other 0 None w.extension) (why_not Other 0 _)) (why_none v (reason_by m.lead)))))

  why_event : (extras : List ℤ) (lead b : ℕ) (v : Event) → WhyOut v (on_event w m extras lead b v)
  unfolding WhyOut
  why_event extras lead b Pending = λ k e. inl (refl, e)
  why_event extras lead b (Point p) = why_after (Point p) lead b (unit_of w extras m p b) (why_unit extras p b)
  why_event extras lead b (Two p q) = why_after (Two p q) lead b (unit_of w extras m p b) (why_unit extras p b)
  why_event extras lead b (Error n) = why_error lead b n

pub held_why : (t : Lent) (m : EucKr) (b : ℕ) (next : EucKr) (g k : ℤ) → step_of t m b ≡ live next g → next.held ≡ Some k → (((decode_of t.index m.lead b).event ≡ Pending) × (m.held ≡ Some k)) ⊎ Why t.scale m k
unfolding step_of WhyOut
held_why t m b next g k e h =
    let d = decode_of t.index m.lead b in
    let x : WhyOut t.scale m d.event (live next g) = rw e at (why_event t.scale m t.extras d.lead b d.event) in
    x k h

-- at the close it counts nothing, and stays in the record
pub held_at_close : (m : EucKr) → m.lead ≡ 0 → close_of m ≡ live m (pos 0)
held_at_close m e = rw (eq-eqb m.lead 0 e)
