-- Privacy of the head: the proof. What a closed stream leaves is a function of the last two bytes of its head and of its rest.
use Rattle.std.specs.Prelude.{◌≡◌, refl, Bool, true, false, cond, List, ◌++◌, ◌⊎◌, ℕ, ◌+◌, ◌-◌, ◌≤◌, ltb, length, get_or, drop}
use Rattle.std.proofs.Common.{sym, ap, ◌∙◌, inl, inr, arith, length-drop, drop-drop, ltb-true, ltb-false}
use Rattle.std.proofs.Math.ListN.{get_or-eq_default}
use Rattle.laws.specs.Each.{EachFrom, each_get}
use Rattle.laws.specs.Lists.{any, any_drop, last}
use Rattle.laws.specs.Memory.{all}
use Rattle.context.specs.Head.{is_trigger, head_of, non_ascii_count}
use Rattle.context.specs.HeadLaws.{head_triggerless}
use Rattle.tables.specs.Own.{Own, nothing, of_single, place_count, owns, own_of}
use Rattle.tables.specs.Tables.{Single, Tables}
use Rattle.kinds.proofs.HeadLaws.{head_plain, bare_plain}
use Rattle.kinds.specs.Plain.{is_shift, plain, Plain}
use Rattle.places.specs.HeadLaws.{EndAlike, start_forgets}
use Rattle.places.specs.Slate as slate
use Rattle.places.specs.Slate.{feed_all}
use Rattle.places.specs.declared.place.Place.{Place}
use Rattle.state.specs.Leader.{leader_of}
use Rattle.state.specs.State.{triggered, start_of}
use Rattle.state.specs.declared.State.{State}
use Rattle.state.specs.declared.front.Front.{Front}
use Rattle.detector.specs.Stream.{rest_of}
use Rattle.detector.specs.StreamLaws.{stream_met, stream_counts}
use Rattle.privacy.specs.PlacesLaws.{stream_front, stream_from_start}
use Rattle.privacy.specs.Privacy.{Call, after_calls, ClosedStream, chunks_of, stream_of, SameEnd, InEach, No255, NoLetter, NoShift, Premises, Agree, Privacy, CutAsYouLike}
use Rattle.privacy.specs.SplitLaws.{trigger_in_rest, count_in_rest}

-- ---- each place's tables meet the premises
module _ (t : Tables) (n : InEach No255 t) (l : InEach NoLetter t) where
  single_plain : (s : Single) → No255 s → NoLetter s → Plain (of_single s t.weights)
  single_plain s a b = record { no_255 = a; no_letter = b }

  each_plain : EachFrom (λ (k : ℕ) (o : Own). Plain o) 0 (owns t)
  each_plain = (
    bare_plain _ _ _ _,
    (
      bare_plain _ _ _ _,
      (
        bare_plain _ _ _ _,
        (
          bare_plain _ _ _ _,
          (single_plain t.caseless n.0 l.0, (single_plain t.logical n.1.0 l.1.0, (single_plain t.visual n.1.1.0 l.1.1.0, (single_plain t.arabic_french n.1.1.1.0 l.1.1.1.0, (bare_plain _ _ _ _, tt))))),
        ),
      ),
    ),
  )

  all_plain : (k : ℕ) → Plain (own_of t k)
  all_plain k = at (ltb k place_count) refl
    where
      at : (b : Bool) → ltb k place_count ≡ b → Plain (own_of t k)
      at true e = each_get (λ (k : ℕ) (o : Own). Plain o) 0 (owns t) nothing each_plain k (ltb-true k place_count e)
      at false e = rw (get_or-eq_default (owns t) nothing {n = k} (ltb-false k place_count e)) (bare_plain _ _ _ _)

-- ---- the last two of the last few
last_of_last : (k : ℕ) (xs : List ℕ) → 2 ≤ k → last 2 (last k xs) ≡ last 2 xs
unfolding last
last_of_last k xs h =
    let n = length xs - k in
    let e : length xs - k + (length (drop (length xs - k) xs) - 2) ≡ length xs - 2 = rw length-drop (omega arith) in
    drop-drop (length (drop n xs) - 2) n xs ∙ ap (λ (m : ℕ). drop m xs) e

module _ (head : List ℕ) (quiet : any is_trigger head ≡ false) (shiftless : NoShift head) where
  end_plain : (k : ℕ) → all plain (last k head) ≡ true
  unfolding last
  end_plain k = head_plain (drop (length head - k) head) (any_drop is_trigger (length head - k) head quiet) (any_drop is_shift (length head - k) head shiftless)

  ends_alike : (k : ℕ) → 2 ≤ k → EndAlike (last k head) (last 2 head)
  ends_alike k h = record { one_plain = end_plain k; two_plain = end_plain 2; ends = last_of_last k head h ∙ sym (last_of_last 2 head (omega arith)) }

-- ---- one stream
-- what the last two bytes of a head and a rest make of the places
abbrev left_by : Tables → ℕ → List ℕ → List ℕ → List Place
left_by t bits end rest = cond (any is_trigger rest) (feed_all t true (length rest) (end ++ rest) (slate.start_of bits)) (slate.start_of bits)

module _ (t : Tables) (bits : ℕ) (calls : List Call) (closed : ClosedStream t bits calls) where
  abbrev left : State
  left = after_calls t (start_of bits) calls

  abbrev stream : List ℕ
  stream = stream_of calls

  places_left : InEach No255 t → InEach NoLetter t → NoShift (head_of stream) → left.places ≡ left_by t bits (last 2 (head_of stream)) (rest_of stream)
  places_left n l shiftless =
      let from = stream_from_start t bits calls closed in
      let start = slate.start_of bits in
      let rest = rest_of (stream_of calls) in
      let alike = ends_alike (head_of (stream_of calls)) (head_triggerless (stream_of calls)) shiftless from.kept from.two in
      from.is
      ∙ (ap (λ (b : Bool). cond b (feed_all t true (length rest) (last from.kept (head_of stream) ++ rest) start) start) (trigger_in_rest stream)
      ∙ ap (λ (ps : List Place). cond (any is_trigger rest) ps start) (start_forgets (last from.kept (head_of stream)) (last 2 (head_of stream)) alike true (length rest) rest t (all_plain t n l) bits))

  count_left : left.front.non_ascii_seen ≡ non_ascii_count (rest_of stream)
  count_left = ap (λ (f : Front). f.non_ascii_seen) (stream_front t bits calls closed) ∙ (stream_counts (chunks_of calls) ∙ count_in_rest stream)

  met_left : triggered left.front ≡ any is_trigger (rest_of stream)
  met_left = ap (λ (f : Front). triggered f) (stream_front t bits calls closed) ∙ (stream_met (chunks_of calls) ∙ trigger_in_rest stream)

-- ---- two streams
same_leader : (one two : State) → triggered one.front ≡ triggered two.front → one.places ≡ two.places → leader_of one ≡ leader_of two
unfolding leader_of
same_leader one two e f = rw (e, f)

module _ (t : Tables) (bits : ℕ) (one two : List Call) (p : Premises t bits one two) where
  abbrev first : State
  first = after_calls t (start_of bits) one

  abbrev second : State
  second = after_calls t (start_of bits) two

  same_end : last 2 (head_of (stream_of one)) ≡ last 2 (head_of (stream_of two))
  same_end = at p.heads
    where
      at : (head_of (stream_of one) ≡ head_of (stream_of two)) ⊎ SameEnd (head_of (stream_of one)) (head_of (stream_of two)) → last 2 (head_of (stream_of one)) ≡ last 2 (head_of (stream_of two))
      at (inl e) = ap (last 2) e
      at (inr s) = s.ends

  pub same_places : first.places ≡ second.places
  same_places =
      places_left t bits one p.one_closed p.no_255 p.no_letter p.one_shiftless
      ∙ (ap (λ (end : List ℕ). left_by t bits end (rest_of (stream_of one))) same_end
      ∙ (ap (left_by t bits (last 2 (head_of (stream_of two)))) p.rests
      ∙ sym (places_left t bits two p.two_closed p.no_255 p.no_letter p.two_shiftless)))

  same_met : triggered first.front ≡ triggered second.front
  same_met = met_left t bits one p.one_closed ∙ (ap (any is_trigger) p.rests ∙ sym (met_left t bits two p.two_closed))

  agree : Agree first second
  agree =
      record {
        scores = λ (k : ℕ) (d : Place). ap (λ (ps : List Place). (get_or ps k d).score) same_places;
        records = λ (k : ℕ) (d : Place). ap (λ (ps : List Place). (get_or ps k d).machine) same_places;
        count = omega (arith, count_left t bits one p.one_closed, ap non_ascii_count p.rests, count_left t bits two p.two_closed);
        leader = same_leader first second same_met same_places;
      }

-- The theorem.
pub privacy : Privacy
privacy t bits one two p = agree t bits one two p

-- Any two cuttings of one stream agree.
pub cuttings_agree : CutAsYouLike
cuttings_agree t bits one two c =
    privacy t bits one two
    (record {
      one_closed = c.one_closed;
      two_closed = c.two_closed;
      rests = ap rest_of c.same;
      heads = inl (ap head_of c.same);
      no_255 = c.tables.0;
      no_letter = c.tables.1;
      one_shiftless = c.shiftless;
      two_shiftless = ap (λ (xs : List ℕ). any is_shift (head_of xs)) (sym c.same) ∙ c.shiftless;
    })
