-- The pairs of `Needed`, by computation.
use Rattle.std.specs.Prelude.{◌≡◌, refl, Bool, not, ℕ, zero, suc, ◌+◌, ◌<◌, ◌≤◌, eqb, ℤ, pos, length, get_or, Ok}
use Rattle.std.proofs.Math.Path.{sym, ap, subst}
use Rattle.std.proofs.Common.{◌∙◌, inr, arith, length-set}
use Rattle.std.proofs.Math.Bool.{true, false}
use mathlib.Core.List.{List, [], ◌∷◌, flatten}
use Rattle.std.proofs.lemmas.List.{length-replicate}
use Rattle.laws.specs.Carried.{carried}
use Rattle.laws.specs.Limit.{limit}
use Rattle.laws.specs.Lists.{any, count, last}
use Rattle.laws.specs.Memory.{all}
use Rattle.laws.specs.Run.{plus, takes, with_byte, run, ends_at}
use Rattle.laws.specs.declared.Reason.{Reason}
use Rattle.laws.specs.declared.Reason.TheVariants.{Class255, BadByte}
use Rattle.laws.specs.Tests.{both, off}
use Rattle.lengths.specs.Lengths.{class_count, mark_count, pair_count, big5_count, euc_kr_count, jis_count, extra_count, weight_count}
use Rattle.context.specs.Context.{push_of}
use Rattle.context.specs.Head.{is_trigger, head_of, scan_of}
use Rattle.single.specs.Pair.{adjacent_of, pair_gain_of}
use Rattle.utf8.specs.Utf8 as utf-8
use Rattle.iso2022jp.specs.Iso2022Jp.{is_text, ascii_of, escape_start_of, designated, state_of, escaped_to, step_in, close_in}
use Rattle.arabic_french.specs.ArabicFrench as arabic_french
use Rattle.caseless_script.specs.Caseless as caseless
use Rattle.tables.specs.Own.{place_count, own_of}
use Rattle.tables.specs.Tables.{Single, Tables, tables, Sized}
use Rattle.kinds.specs.Kinds.{step_of, close_of}
use Rattle.kinds.specs.declared.machine.Machine.{Machine}
use Rattle.kinds.specs.declared.machine.Machine.TheVariants.{Utf8, Iso2022Jp, EucKr, Big5, Caseless, Logical, Visual, ArabicFrench, ShiftJis}
use Rattle.places.specs.Place.{place, place_as, ran_from, end_from, feed_of as feedPlace}
use Rattle.places.specs.Slate as slate
use Rattle.places.specs.SlateLaws.{feed_at}
use Rattle.places.specs.declared.place.Place.{Place}
use Rattle.state.specs.Reply.{number_of}
use Rattle.state.specs.State.{fresh, start_of}
use Rattle.state.specs.declared.State.{State}
use Rattle.detector.specs.Feed.{advance_of, feed_of}
use Rattle.detector.specs.FeedLaws.{fit_accepted, first_passed}
use Rattle.detector.specs.Front.{none, reaches_at, reaches_by, reaches_of, trigger_of, context_by, esc_by}
use Rattle.detector.specs.Kept.{Passed}
use Rattle.detector.specs.OrderLaws.{advance_in_order}
use Rattle.detector.specs.Stream.{reached_by, rest_of}
use Rattle.detector.specs.declared.feed.Fed.{Fed}
use Rattle.privacy.specs.Needed.{Fails, SameHeads, whole, in_two, all_in, zeros, no_scores, lent_with, nothing_lent, barred, lettered, latin, after_a, after_space, cut, uncut, shift_cut, shift_uncut, EachNeeded}
use Rattle.privacy.specs.PlacesLaws.{stream_places}
use Rattle.privacy.specs.Privacy.{Call, after_calls, ClosedStream, chunks_of, stream_of, InEach, No255, NoLetter, Premises, Agree}
use Rattle.places.specs.Score.{Score, no_score}

-- ---- lengths
zeros_length : (n : ℕ) → length (zeros n) ≡ n
unfolding zeros
zeros_length n = length-replicate n 0

no_scores_length : (n : ℕ) → length (no_scores n) ≡ n
unfolding no_scores
no_scores_length n = length-replicate n (pos 0)

sized_by : (c m : List ℕ) (p : List ℤ) (b e j : List ℕ) (x w : List ℤ) → length c ≡ class_count → length m ≡ mark_count → length p ≡ pair_count → length b ≡ big5_count → length e ≡ euc_kr_count → length j ≡ jis_count → length x ≡ extra_count → length w ≡ weight_count → Sized (tables c m p c m p c m p c m p b e j x w)
sized_by c m p b e j x w h₁ h₂ h₃ h₄ h₅ h₆ h₇ h₈ = record { exact = rw (h₁, h₂, h₃, h₄, h₅, h₆, h₇, h₈) }

with_sized : (c m : List ℕ) (w : List ℤ) → length c ≡ class_count → length m ≡ mark_count → length w ≡ weight_count → Sized (lent_with c m w)
with_sized c m w h i l =
    sized_by c m (no_scores pair_count) (zeros big5_count) (zeros euc_kr_count) (zeros jis_count) (no_scores extra_count) w h i (no_scores_length pair_count) (zeros_length big5_count) (zeros_length euc_kr_count) (zeros_length jis_count) (no_scores_length extra_count) l

-- ---- classes and marks
-- a list all of whose entries pass, read anywhere
all_get : (q : ℕ → Bool) (xs : List ℕ) (i : ℕ) → all q xs ≡ true → q 0 ≡ true → q (get_or xs i 0) ≡ true
unfolding all
all_get q [] i e z = z
all_get q (x ∷ xs) zero e z = (both (q x) (all q xs) e).0
all_get q (x ∷ xs) (suc i) e z = all_get q xs i (both (q x) (all q xs) e).1 z

zeros_get : (n i : ℕ) → get_or (zeros n) i 0 ≡ 0
unfolding zeros
zeros_get zero i = refl
zeros_get (suc n) zero = refl
zeros_get (suc n) (suc i) = zeros_get n i

below_255 : (s : Single) → all (λ (c : ℕ). not (eqb c 255)) s.classes ≡ true → No255 s
below_255 s e b a = off _ (all_get (λ (c : ℕ). not (eqb c 255)) s.classes b e refl)

unmarked : (s : Single) → s.marks ≡ zeros mark_count → NoLetter s
unmarked s e b a = rw (e, zeros_get)

-- ---- calls that are accepted
module _ (t : Tables) (z : Sized t) (bits : ℕ) where
  whole_closed : (xs : List ℕ) → length xs ≤ limit → ClosedStream t bits (whole xs)
  unfolding after_calls number_of advance_of
  whole_closed xs h =
      let e = fit_accepted t (start_of bits) xs (first_passed t z bits xs h) true in
      record { accepted = (ap (λ (f : Fed). number_of f.reply) e, tt); closed = ap (λ (f : Fed). f.state.front.closed) e }

  -- the first of two is saved
  module _ (xs ys : List ℕ) (saved : reaches_of fresh xs ≡ none) (short : length xs + length ys ≤ limit) where
    abbrev between : State
    between = advance_of t (start_of bits) xs false

    first : Passed t (start_of bits) xs
    first = first_passed t z bits xs (omega arith)

    second : Passed t between ys
    unfolding advance_of
    second = record { sized = z; in_order = advance_in_order t (start_of bits) xs false first (rw saved tt); going = refl; short = omega (arith, short) }

    two_closed : ClosedStream t bits (in_two xs ys)
    unfolding after_calls number_of advance_of
    two_closed =
        let e = fit_accepted t (start_of bits) xs first false in
        let f = fit_accepted t between ys second true in
        let back = sym (ap (λ (f : Fed). f.state) e) in
        record {
          accepted = (ap (λ (f : Fed). number_of f.reply) e, (subst (λ (s : State). number_of (feed_of t s ys true).reply ≡ 0) back (ap (λ (f : Fed). number_of f.reply) f), tt));
          closed = subst (λ (s : State). (feed_of t s ys true).state.front.closed ≡ true) back (ap (λ (f : Fed). f.state.front.closed) f);
        }

-- ---- what a closed stream leaves in place k, of what reached the places
abbrev other : Place
other = place (Utf8 utf-8.fresh) (Ok (pos 0))

-- what reaches the places of a stream with a trigger, and how many bytes it has from the end of the head on
pub record ReachedBy (calls : List Call) (body : ℕ) (xs : List ℕ) : Type 0 where
  pub met : any is_trigger (stream_of calls) ≡ true
  pub reached : reached_by fresh (chunks_of calls) ≡ xs
  pub rest : length (rest_of (stream_of calls)) ≡ body

abbrev left_in : Tables → ℕ → ℕ → List ℕ → Place
left_in t k body xs = feedPlace (own_of t k) true body xs (get_or (slate.start_of all_in) k other)

left_at : (t : Tables) (calls : List Call) → ClosedStream t all_in calls → (body : ℕ) (xs : List ℕ) → ReachedBy calls body xs → (k : ℕ) → k < place_count → get_or (after_calls t (start_of all_in) calls).places k other ≡ left_in t k body xs
unfolding slate.start_of
left_at t calls closed body xs r k h =
    let e : (after_calls t (start_of all_in) calls).places ≡ slate.feed_all t true body xs (slate.start_of all_in) = stream_places t all_in calls closed ∙ rw (r.met, r.reached, r.rest) in
    ap (λ (ps : List Place). get_or ps k other) e ∙ feed_at t true body xs (slate.start_of all_in) other k h

module _ (t : Tables) (one two : List Call) (c : ClosedStream t all_in one) (d : ClosedStream t all_in two) (body : ℕ) (xs ys : List ℕ) (r : ReachedBy one body xs) (q : ReachedBy two body ys) (k : ℕ) (h : k < place_count) where
  places_differ : {A : Type 0} (f : Place → A) → (f (left_in t k body xs) ≡ f (left_in t k body ys) → ⊥) → (Agree (after_calls t (start_of all_in) one) (after_calls t (start_of all_in) two) → f (get_or (after_calls t (start_of all_in) one).places k other) ≡ f (get_or (after_calls t (start_of all_in) two).places k other)) → Agree (after_calls t (start_of all_in) one) (after_calls t (start_of all_in) two) → ⊥
  places_differ f apart same a = apart (ap f (sym (left_at t one c body xs r k h)) ∙ (same a ∙ ap f (left_at t two d body ys q k h)))

  scores_differ : ((left_in t k body xs).score ≡ (left_in t k body ys).score → ⊥) → Agree (after_calls t (start_of all_in) one) (after_calls t (start_of all_in) two) → ⊥
  scores_differ apart a = places_differ (λ (p : Place). p.score) apart (λ b. b.scores k other) a

  records_differ : ((left_in t k body xs).machine ≡ (left_in t k body ys).machine → ⊥) → Agree (after_calls t (start_of all_in) one) (after_calls t (start_of all_in) two) → ⊥
  records_differ apart a = places_differ (λ (p : Place). p.machine) apart (λ b. b.records k other) a

none_live : {d : Reason} {at : ℕ} {n : ℤ} → no_score d at ≡ Ok n → ⊥
none_live e = let z : ◌≡◌ {A = ℕ} 0 1 = cc in omega arith

-- ---- the same last two
latin_sized : Sized latin
latin_sized = with_sized _ _ _ (simp length-set (zeros_length class_count)) (zeros_length mark_count) (simp length-set (no_scores_length weight_count))

one_apart : ◌≡◌ {A = Score} (Ok (pos 1)) (Ok (pos 0)) → ⊥
one_apart e = let z : ◌≡◌ {A = ℕ} 1 0 = cc in omega arith

after_capitals : (left_in latin 7 1 (0x41 ∷ 0x42 ∷ 0xE9 ∷ [])).score ≡ Ok (pos 1)
unfolding slate.start_of ran_from end_from place_as run ends_at takes with_byte plus step_of close_of carried arabic_french.step_of pair_gain_of adjacent_of zeros no_scores
after_capitals = refl

after_space_lem : (left_in latin 7 1 (0x20 ∷ 0x42 ∷ 0xE9 ∷ [])).score ≡ Ok (pos 0)
unfolding slate.start_of ran_from end_from place_as run ends_at takes with_byte plus step_of close_of carried arabic_french.step_of pair_gain_of adjacent_of zeros no_scores
after_space_lem = refl

-- ---- class 255, and an alphabetic class, at the third byte
barred_sized : Sized barred
barred_sized = with_sized _ _ _ (simp length-set (zeros_length class_count)) (zeros_length mark_count) (no_scores_length weight_count)

with_41 : (left_in barred 4 1 (0x41 ∷ 0x20 ∷ 0x20 ∷ 0xE9 ∷ [])).score ≡ no_score Class255 0
unfolding slate.start_of ran_from end_from place_as run ends_at takes with_byte plus step_of close_of carried caseless.step_of pair_gain_of adjacent_of zeros no_scores
with_41 = refl

without_41 : (left_in barred 4 1 (0x20 ∷ 0x20 ∷ 0xE9 ∷ [])).score ≡ Ok (pos 0)
unfolding slate.start_of ran_from end_from place_as run ends_at takes with_byte plus step_of close_of carried caseless.step_of pair_gain_of adjacent_of zeros no_scores
without_41 = refl

lettered_sized : Sized lettered
lettered_sized = with_sized _ _ _ (simp length-set (zeros_length class_count)) (simp length-set (zeros_length mark_count)) (no_scores_length weight_count)

-- the longest word of a caseless machine
abbrev longest : Machine → ℕ
longest (Caseless m) = m.longest_word
longest (Utf8 m) = 0
longest (Iso2022Jp m) = 0
longest (EucKr m) = 0
longest (Big5 m) = 0
longest (Logical m) = 0
longest (Visual m) = 0
longest (ArabicFrench m) = 0
longest (ShiftJis m) = 0

word_of_41 : longest (left_in lettered 4 1 (0x41 ∷ 0x20 ∷ 0x20 ∷ 0xE9 ∷ [])).machine ≡ 1
unfolding slate.start_of ran_from end_from place_as run ends_at takes with_byte plus step_of close_of carried caseless.step_of pair_gain_of adjacent_of zeros no_scores
word_of_41 = refl

word_apart : ◌≡◌ {A = ℕ} 1 0 → ⊥
word_apart e = omega arith

no_word : longest (left_in lettered 4 1 (0x20 ∷ 0x20 ∷ 0xE9 ∷ [])).machine ≡ 0
unfolding slate.start_of ran_from end_from place_as run ends_at takes with_byte plus step_of close_of carried caseless.step_of pair_gain_of adjacent_of zeros no_scores
no_word = refl

-- ---- 0E and 0F at the third byte
nothing_sized : Sized nothing_lent
nothing_sized = with_sized _ _ _ (zeros_length class_count) (zeros_length mark_count) (no_scores_length weight_count)

with_0e : (left_in nothing_lent 1 3 (0x0E ∷ 0x20 ∷ 0x20 ∷ 0x1B ∷ 0x28 ∷ 0x42 ∷ [])).score ≡ no_score BadByte 0
unfolding slate.start_of ran_from end_from place_as run ends_at takes with_byte plus step_of close_of carried step_in ascii_of is_text escape_start_of designated state_of escaped_to close_in any
with_0e = refl

with_0f : (left_in nothing_lent 1 3 (0x0F ∷ 0x20 ∷ 0x20 ∷ 0x1B ∷ 0x28 ∷ 0x42 ∷ [])).score ≡ no_score BadByte 0
unfolding slate.start_of ran_from end_from place_as run ends_at takes with_byte plus step_of close_of carried step_in ascii_of is_text escape_start_of designated state_of escaped_to close_in any
with_0f = refl

without_shift : (left_in nothing_lent 1 3 (0x20 ∷ 0x20 ∷ 0x1B ∷ 0x28 ∷ 0x42 ∷ [])).score ≡ Ok (pos 0)
unfolding slate.start_of ran_from end_from place_as run ends_at takes with_byte plus step_of close_of carried step_in ascii_of is_text escape_start_of designated state_of escaped_to close_in any
without_shift = refl

-- ---- all
four : {A : Type 0} → A → A × (A × (A × (A × Unit {0})))
four a = (a, (a, (a, (a, tt))))

cut_reached : ReachedBy cut 1 (0x41 ∷ 0x20 ∷ 0x20 ∷ 0xE9 ∷ [])
unfolding any flatten reached_by reaches_by reaches_at trigger_of scan_of head_of context_by esc_by push_of last count
cut_reached = record { met = refl; reached = refl; rest = refl }

uncut_reached : ReachedBy uncut 1 (0x20 ∷ 0x20 ∷ 0xE9 ∷ [])
unfolding any flatten reached_by reaches_by reaches_at trigger_of scan_of head_of
uncut_reached = record { met = refl; reached = refl; rest = refl }

cut_closed : (t : Tables) → Sized t → ClosedStream t all_in cut
unfolding reaches_by trigger_of scan_of head_of
cut_closed t z = two_closed t z all_in (0x41 ∷ 0x20 ∷ []) (0x20 ∷ 0xE9 ∷ []) refl (omega arith)

uncut_closed : (t : Tables) → Sized t → ClosedStream t all_in uncut
uncut_closed t z = whole_closed t z all_in (0x41 ∷ 0x20 ∷ 0x20 ∷ 0xE9 ∷ []) (omega arith)

-- one stream, cut in two ways, over tables z, which leaves place k differently
module _ (t : Tables) (z : Sized t) where
  cut_fails : (others : Type 0) → others → (Agree (after_calls t (start_of all_in) cut) (after_calls t (start_of all_in) uncut) → ⊥) → Fails t all_in cut uncut others
  unfolding flatten head_of
  cut_fails others o apart = record { one_closed = cut_closed t z; two_closed = uncut_closed t z; rests = refl; others = o; differ = apart }

plain_nothing : No255 nothing_lent.caseless
unfolding all zeros
plain_nothing = below_255 nothing_lent.caseless refl

shift_fails : (b : ℕ) → reaches_of fresh (b ∷ 0x20 ∷ []) ≡ none → ReachedBy (shift_cut b) 3 (b ∷ 0x20 ∷ 0x20 ∷ 0x1B ∷ 0x28 ∷ 0x42 ∷ []) → ReachedBy (shift_uncut b) 3 (0x20 ∷ 0x20 ∷ 0x1B ∷ 0x28 ∷ 0x42 ∷ []) → (left_in nothing_lent 1 3 (b ∷ 0x20 ∷ 0x20 ∷ 0x1B ∷ 0x28 ∷ 0x42 ∷ [])).score ≡ no_score BadByte 0 → Fails nothing_lent all_in (shift_cut b) (shift_uncut b) (SameHeads (shift_cut b) (shift_uncut b) × (InEach No255 nothing_lent × InEach NoLetter nothing_lent))
unfolding flatten
shift_fails b saved r q gone =
    let one = two_closed nothing_lent nothing_sized all_in (b ∷ 0x20 ∷ []) (0x20 ∷ 0x1B ∷ 0x28 ∷ 0x42 ∷ []) saved (omega arith) in
    let two = whole_closed nothing_lent nothing_sized all_in (b ∷ 0x20 ∷ 0x20 ∷ 0x1B ∷ 0x28 ∷ 0x42 ∷ []) (omega arith) in
    record {
      one_closed = one;
      two_closed = two;
      rests = refl;
      others = (refl, (four plain_nothing, four (unmarked nothing_lent.caseless refl)));
      differ = scores_differ nothing_lent (shift_cut b) (shift_uncut b) one two 3 _ _ r q 1 (omega arith) (λ e. none_live (sym gone ∙ (e ∙ without_shift)));
    }

-- Each premise is needed.
pub each_needed : EachNeeded
unfolding all zeros any flatten reached_by reaches_by reaches_at trigger_of scan_of head_of context_by esc_by push_of last count
each_needed =
    let capitals = whole_closed latin latin_sized all_in (0x41 ∷ 0x42 ∷ 0xE9 ∷ []) (omega arith) in
    let spaced = whole_closed latin latin_sized all_in (0x20 ∷ 0x42 ∷ 0xE9 ∷ []) (omega arith) in
    record {
      last_two =
          record {
            one_closed = capitals;
            two_closed = spaced;
            rests = refl;
            others = (refl, (four (below_255 latin.caseless refl), (four (unmarked latin.caseless refl), (refl, refl))));
            differ = scores_differ latin after_a after_space capitals spaced 1 (0x41 ∷ 0x42 ∷ 0xE9 ∷ []) (0x20 ∷ 0x42 ∷ 0xE9 ∷ []) (record { met = refl; reached = refl; rest = refl }) (record { met = refl; reached = refl; rest = refl }) 7 (omega arith) (λ e. one_apart (sym after_capitals ∙ (e ∙ after_space_lem)));
          };
      class_255 =
          cut_fails barred barred_sized _ (refl, (four (unmarked barred.caseless refl), (refl, refl)))
          (scores_differ barred cut uncut (cut_closed barred barred_sized) (uncut_closed barred barred_sized) 1 _ _ cut_reached uncut_reached 4 (omega arith) (λ e. none_live (sym with_41 ∙ (e ∙ without_41))));
      alphabetic =
          cut_fails lettered lettered_sized _ (refl, (four (below_255 lettered.caseless refl), (refl, refl)))
          (records_differ lettered cut uncut (cut_closed lettered lettered_sized) (uncut_closed lettered lettered_sized) 1 _ _ cut_reached uncut_reached 4 (omega arith) (λ e. word_apart (sym word_of_41 ∙ (ap longest e ∙ no_word))));
      shift_out = shift_fails 0x0E refl (record { met = refl; reached = refl; rest = refl }) (record { met = refl; reached = refl; rest = refl }) with_0e;
      shift_in = shift_fails 0x0F refl (record { met = refl; reached = refl; rest = refl }) (record { met = refl; reached = refl; rest = refl }) with_0f;
    }

-- ---- and they can be met, by heads that differ in their length and in all but their last two bytes, cut differently
pub premises_met : Premises nothing_lent all_in (whole (0x61 ∷ 0x62 ∷ 0x63 ∷ 0xE9 ∷ [])) (in_two (0x7A ∷ 0x7A ∷ 0x7A ∷ 0x62 ∷ []) (0x63 ∷ 0xE9 ∷ []))
unfolding any flatten head_of last reaches_by trigger_of scan_of
premises_met =
    record {
      one_closed = whole_closed nothing_lent nothing_sized all_in (0x61 ∷ 0x62 ∷ 0x63 ∷ 0xE9 ∷ []) (omega arith);
      two_closed = two_closed nothing_lent nothing_sized all_in (0x7A ∷ 0x7A ∷ 0x7A ∷ 0x62 ∷ []) (0x63 ∷ 0xE9 ∷ []) refl (omega arith);
      rests = refl;
      heads = inr (record { one_long = omega arith; two_long = omega arith; ends = refl });
      no_255 = four plain_nothing;
      no_letter = four (unmarked nothing_lent.caseless refl);
      one_shiftless = refl;
      two_shiftless = refl;
    }
