-- When a score is held: only after a lead that holds, where the kind before is not Cj; and it is one of the two scores of a
-- Hanzi. A lead leaves it as it was; every other byte releases or discards it.
use Rattle.std.proofs.Math.Path.{◌≡◌, refl}
use Rattle.std.specs.Prelude.{Bool, true, false, cond, not, ◌&&◌, ◌⊎◌, ℕ, ltb, ℤ, pos, ◌+ℤ◌, Some, None}
use Rattle.std.proofs.Math.Logic.{inl, inr}
use Rattle.std.proofs.Common.{arith}
use Rattle.std.proofs.Math.Dec.{eqb}
use borrow.Author.Tests.{not-true, eq-eqb}
use Rattle.laws.specs.Tests.{both, picked}
use Rattle.laws.specs.Run.{Outcome, none, live}
use Rattle.laws.specs.declared.Reason.{Reason}
use Rattle.octets.specs.Octets.{between, ascii, letter}
use Rattle.pairs.specs.Pairs.{is_held_lead, reason_by, released_of}
use Rattle.pairs.specs.declared.Event.{Event}
use Rattle.pairs.specs.declared.Event.TheVariants.{Pending, Point, Two, Error}
use Rattle.big5_decoder.specs.Standard.{decode_of}
use Rattle.big5.specs.Scoring.{is_hanzi, is_distinct, is_cj, beside_of, scored, holds_of, hanzi_weight, letter_of, hanzi_of, other_of, unit_of, point_of, unmapped_of, extension_of, is_pair, extends, after_byte, stray_of, error_of, on_event, Lent, step_of}
use Rattle.big5.specs.Big5.{close_of}
use Rattle.big5.specs.declared.Big5.{Big5}
use Rattle.big5.specs.declared.LatinCj.{LatinCj}
use Rattle.big5.specs.declared.LatinCj.TheVariants.{AsciiLetter, Cj, Other}
use Rattle.big5.specs.declared.Scale.{Scale}
use Rattle.big5.specs.declared.Scored.{Scored}

-- k is held anew: why
pub record Why (w : Scale) (m : Big5) (k : ℤ) : Type 0 where
  pub not_after_cj : is_cj m.prev ≡ false
  pub after_lead : is_held_lead m.prev_byte ≡ true
  pub of_hanzi : (k ≡ w.level1) ⊎ (k ≡ w.hanzi)

module _ (w : Scale) (m : Big5) where
  Whys : Scored → Type 0
  Whys s = (k : ℤ) → s.held ≡ Some k → Why w m k

  why_not : (kind : LatinCj) (g : ℤ) → Whys (scored kind None g)
  unfolding Whys
  why_not kind g k e = let z : ◌≡◌ {A = ℕ} 0 1 = cc in absurd (omega arith)

  why_held : (own g : ℤ) → (own ≡ w.level1) ⊎ (own ≡ w.hanzi) → holds_of m ≡ true → Whys (scored Cj (Some own) g)
  unfolding Whys holds_of
  why_held own g o h k e =
      let a = both (not (is_cj m.prev)) (is_held_lead m.prev_byte) h in
      let f : own ≡ k = cc in
      record { not_after_cj = not-true (is_cj m.prev) a.0; after_lead = a.1; of_hanzi = rw f at o }

  hanzi_pick : (t : Bool) (own g h : ℤ) → (own ≡ w.level1) ⊎ (own ≡ w.hanzi) → holds_of m ≡ t → Whys (cond t (scored Cj (Some own) g) (scored Cj None h))
  hanzi_pick true own g h o e = why_held own g o e
  hanzi_pick false own g h o e = why_not Cj h

  why_hanzi : (own : ℤ) → (own ≡ w.level1) ⊎ (own ≡ w.hanzi) → Whys (hanzi_of w m own)
  unfolding hanzi_of
  why_hanzi own o = hanzi_pick (holds_of m) own (released_of m.held +ℤ beside_of w m.prev) (released_of m.held +ℤ beside_of w m.prev +ℤ own) o refl

  which : (t : Bool) → (cond t w.level1 w.hanzi ≡ w.level1) ⊎ (cond t w.level1 w.hanzi ≡ w.hanzi)
  which true = inl refl
  which false = inr refl

  why_unit : (u : ℕ) → Whys (unit_of w m u)
  unfolding unit_of letter_of other_of hanzi_weight
  why_unit u =
      picked Whys (letter u) (why_not AsciiLetter _)
      (picked Whys (is_hanzi u) (why_hanzi (hanzi_weight w m.prev_byte) (which (between 0xA4 0xC6 m.prev_byte)))
      (picked Whys (is_distinct u) (why_not Other _)
      (picked Whys (ascii u) (why_not Other (pos 0)) (why_not Other _))))

  why_point : (p : ℕ) → Whys (point_of w m p)
  unfolding point_of
  why_point p = picked Whys (ltb p 0x10000) (why_unit p) (why_hanzi w.hanzi (inr refl))

  why_extension : (b : ℕ) → Whys (extension_of w b)
  unfolding extension_of
  why_extension b =
      picked Whys (eqb b 0xFF) (why_not Other _)
      (picked Whys (letter b) (why_not AsciiLetter _) (why_not Other _))

  -- ---- of a step: a score that is held was so already, and the byte is a lead, or it is held anew
  WhyOut : Event → Outcome Big5 → Type 0
  WhyOut v (none d) = Unit {0}
  WhyOut v (live n g) = (k : ℤ) → n.held ≡ Some k → ((v ≡ Pending) × (m.held ≡ Some k)) ⊎ Why w m k

  why_after : (v : Event) (lead b : ℕ) (s : Scored) → Whys s → WhyOut v (after_byte lead b s)
  unfolding Whys WhyOut
  why_after v lead b s h k e = inr (h k e)

  why_none : (v : Event) (d : Reason) → WhyOut v (none d)
  unfolding WhyOut
  why_none v d = tt

  why_error : (lead b n : ℕ) → WhyOut (Error n) (error_of w m lead b n)
  unfolding error_of stray_of unmapped_of
  why_error lead b n =
      let v = Error n in
      picked (WhyOut v) (is_pair m.prev_byte b) (why_after v lead b (unmapped_of w m) (why_not Cj _))
      (picked (WhyOut v) (extends m.prev_byte b) (why_after v lead b (extension_of w b) (why_extension b))
      (picked (WhyOut v) (eqb n 1 && eqb b 0xFF) (why_after v lead b (scored Other None w.extension) (why_not Other _)) (why_none v (reason_by m.lead))))

  why_event : (lead b : ℕ) (v : Event) → WhyOut v (on_event w m lead b v)
  unfolding WhyOut other_of
  why_event lead b Pending = λ k e. inl (refl, e)
  why_event lead b (Point p) = why_after (Point p) lead b (point_of w m p) (why_point p)
  why_event lead b (Two p q) = why_after (Two p q) lead b (other_of m w.other) (why_not Other _)
  why_event lead b (Error n) = why_error lead b n

pub held_why : (t : Lent) (m : Big5) (b : ℕ) (next : Big5) (g k : ℤ) → step_of t m b ≡ live next g → next.held ≡ Some k → (((decode_of t.index m.lead b).event ≡ Pending) × (m.held ≡ Some k)) ⊎ Why t.scale m k
unfolding step_of WhyOut
held_why t m b next g k e h =
    let d = decode_of t.index m.lead b in
    let x : WhyOut t.scale m d.event (live next g) = rw e at (why_event t.scale m d.lead b d.event) in
    x k h

-- at the close it counts nothing, and stays in the record
pub held_at_close : (m : Big5) → m.lead ≡ 0 → close_of m ≡ live m (pos 0)
held_at_close m e = rw (eq-eqb m.lead 0 e)
