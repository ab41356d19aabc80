-- The places after a stream are the start's places, fed the kept end of the head and the rest, and closed; without a trigger they
-- are the start's. The front is that of the chunks, closed.
use Rattle.std.specs.Prelude.{◌≡◌, refl, Bool, ◌⊎◌, ℕ, ◌+◌, ◌-◌, ◌≤◌}
use Rattle.std.proofs.Common.{sym, ◌∙◌, inl, inr, arith, length-append}
use Rattle.std.proofs.Math.Path.{ap}
use Rattle.std.proofs.Math.Bool.{true, false, cond}
use mathlib.Core.List.{List, [], ◌∷◌, ◌++◌, append-nil}
use Rattle.std.proofs.Math.ListN.{length}
use Rattle.laws.specs.Lists.{any, last}
use Rattle.context.specs.Head.{is_trigger, head_of}
use Rattle.tables.specs.Tables.{Tables}
use Rattle.places.specs.JoinLaws.{feed_all_joined}
use Rattle.places.specs.Slate as slate
use Rattle.places.specs.Slate.{feed_all}
use Rattle.places.specs.SlateLaws.{feed_all_nil}
use Rattle.places.specs.declared.place.Place.{Place}
use Rattle.state.specs.State.{fresh, triggered, start_of}
use Rattle.state.specs.declared.State.{State}
use Rattle.state.specs.declared.front.Front.{Front}
use Rattle.detector.specs.Feed.{places_by, advance_of}
use Rattle.detector.specs.Front.{Reaches, none, some, bytes_in, reaches_of, front_of}
use Rattle.detector.specs.BodyLaws.{stream_body}
use Rattle.detector.specs.Stream.{front_through, reached_by, rest_of, Something, Within, FromStream}
use Rattle.detector.specs.StreamLaws.{whole_reach, whole_body, stays_triggered, Untriggered, Saves, Meets, not_triggered, chunk_way, fresh_untriggered, stays_met, stream_met, stream_reaches}
use Rattle.privacy.specs.CallsLaws.{advanced, calls_advance, OnlyFinal, final_closes}
use Rattle.privacy.specs.Privacy.{Call, after_calls, ClosedStream, chunks_of, stream_of}
use Rattle.privacy.specs.SplitLaws.{head_of_lem, rest_of_lem}

-- ---- the front
abbrev pub shut : Front → Front
shut f = record { context = f.context; esc_seen = f.esc_seen; non_ascii_seen = f.non_ascii_seen; closed = true; bytes = f.bytes; body = f.body }

front_shuts : (t : Tables) (s : State) (calls : List Call) → OnlyFinal calls → (advanced t s calls).front ≡ shut (front_through s.front (chunks_of calls))
unfolding advanced advance_of front_through
front_shuts t s [] o = absurd o
front_shuts t s (c ∷ []) o = rw o
front_shuts t s (c ∷ d ∷ ds) o =
    front_shuts t (advance_of t s c.chunk c.is_last) (d ∷ ds) o.1 ∙ ap (λ (l : Bool). shut (front_through (front_of s.front c.chunk l) (chunks_of (d ∷ ds)))) o.0

-- ---- how many bytes have come from the end of the head on
-- after a trigger, all that reach the places
through_body : (f : Front) (chunks : List (List ℕ)) → triggered f ≡ true → (front_through f chunks).body ≡ f.body + length (reached_by f chunks)
unfolding front_through reached_by
through_body f [] e = omega arith
through_body f (x ∷ xs) e =
    let one : length (bytes_in (reaches_of f x)) ≡ length x = ap (λ (r : Reaches). length (bytes_in r)) (whole_reach f x e) in
    omega (arith, through_body (front_of f x false) xs (stays_triggered f x e), whole_body f x e, one, length-append (bytes_in (reaches_of f x)) (reached_by (front_of f x false) xs))

-- ---- the places
module _ (t : Tables) where
  -- what reaches the places is fed as one stretch
  abbrev Stretch : Bool → ℕ → List Place → Reaches → Type 0
  Stretch l body ps r = places_by t l body ps r ≡ feed_all t l body (bytes_in r) ps

  -- bytes of the context come before the trigger, and so before all that are counted
  met_stretch : (l : Bool) (body : ℕ) (ps : List Place) (r : Reaches) → Something r → Within body r → Stretch l body ps r
  unfolding places_by
  met_stretch l body ps none h w = absurd h
  met_stretch l body ps (some before part) h w =
      let e : 0 ≡ body - length part = omega (arith, w) in
      ap (λ (b : ℕ). feed_all t l body part (feed_all t false b before ps)) e ∙ feed_all_joined t l body before part ps

  -- after a trigger there are none
  whole_stretch : (f : Front) (x : List ℕ) → triggered f ≡ true → (l : Bool) (body : ℕ) (ps : List Place) → Stretch l body ps (reaches_of f x)
  unfolding places_by
  whole_stretch f x e l body ps = rw (whole_reach f x e) (ap (feed_all t l body x) (feed_all_nil t 0 ps))

  unreached_places : (l : Bool) (body : ℕ) (ps : List Place) (r : Reaches) → r ≡ none → places_by t l body ps r ≡ ps
  unfolding places_by
  unreached_places l body ps r e = rw e

  module _ (s : State) (x : List ℕ) where
    abbrev reach : Reaches
    reach = reaches_of s.front x

    abbrev come : ℕ
    come = (front_of s.front x false).body

    -- the final chunk, and one before others
    ends : Stretch true come s.places reach → (advance_of t s x true).places ≡ feed_all t true come (bytes_in reach ++ []) s.places
    unfolding advance_of
    ends h = h ∙ ap (λ (l : List ℕ). feed_all t true come l s.places) (sym (append-nil (bytes_in reach)))

    goes_on : (ps : List Place) (body : ℕ) (later : List ℕ) → Stretch false come s.places reach → come ≡ body - length later → ps ≡ feed_all t true body later (advance_of t s x false).places → ps ≡ feed_all t true body (bytes_in reach ++ later) s.places
    unfolding advance_of
    goes_on ps body later h b e =
        e ∙ (ap (feed_all t true body later) (h ∙ ap (λ (n : ℕ). feed_all t false n (bytes_in reach) s.places) b) ∙ feed_all_joined t true body (bytes_in reach) later s.places)

  -- how many of all the bytes had come when the later ones had not
  come_before : (f : Front) (chunks : List (List ℕ)) → triggered f ≡ true → f.body ≡ (front_through f chunks).body - length (reached_by f chunks)
  come_before f chunks e = omega (arith, through_body f chunks e)

  -- after a trigger
  met_places : (s : State) (calls : List Call) → OnlyFinal calls → triggered s.front ≡ true → (advanced t s calls).places ≡ feed_all t true (front_through s.front (chunks_of calls)).body (reached_by s.front (chunks_of calls)) s.places
  unfolding advanced reached_by front_through advance_of
  met_places s [] o e = absurd o
  met_places s (c ∷ []) o e = ap (λ (l : Bool). (advance_of t s c.chunk l).places) o ∙ ends s c.chunk (whole_stretch s.front c.chunk e true _ s.places)
  met_places s (c ∷ d ∷ ds) o e =
      let x = c.chunk in
      let f = front_of s.front c.chunk false in
      let still = stays_triggered s.front c.chunk e in
      ap (λ (l : Bool). (advanced t (advance_of t s x l) (d ∷ ds)).places) o.0
      ∙ goes_on s x (advanced t (advance_of t s x false) (d ∷ ds)).places (front_through f (chunks_of (d ∷ ds))).body (reached_by f (chunks_of (d ∷ ds))) (whole_stretch s.front x e false _ s.places) (come_before f (chunks_of (d ∷ ds)) still) (met_places (advance_of t s x false) (d ∷ ds) o.1 still)

  -- before it: the places are as they were, or fed what reached them, by whether a trigger was met
  abbrev settled : State → List Call → List Place
  settled s calls = cond (triggered (front_through s.front (chunks_of calls))) (feed_all t true (front_through s.front (chunks_of calls)).body (reached_by s.front (chunks_of calls)) s.places) s.places

  final_way : (pre : List ℕ) (s : State) (c : Call) → c.is_last ≡ true → Saves pre c.chunk s.front ⊎ Meets c.chunk s.front → (advanced t s (c ∷ [])).places ≡ settled s (c ∷ [])
  unfolding advanced reached_by front_through advance_of
  final_way pre s c o (inl w) = rw (not_triggered (pre ++ c.chunk) (front_of s.front c.chunk false) w.next) (unreached_places c.is_last _ s.places (reaches_of s.front c.chunk) w.nothing)
  final_way pre s c o (inr w) = rw w.now (ap (λ (l : Bool). (advance_of t s c.chunk l).places) o ∙ ends s c.chunk (met_stretch true _ s.places (reaches_of s.front c.chunk) w.reaches w.within))

  more_way : (pre : List ℕ) (s : State) (c : Call) (cs : List Call) → c.is_last ≡ false → OnlyFinal cs → (Untriggered (pre ++ c.chunk) (front_of s.front c.chunk false) → (advanced t (advance_of t s c.chunk false) cs).places ≡ settled (advance_of t s c.chunk false) cs) → Saves pre c.chunk s.front ⊎ Meets c.chunk s.front → (advanced t s (c ∷ cs)).places ≡ settled s (c ∷ cs)
  unfolding advanced reached_by front_through advance_of
  more_way pre s c cs o later more (inl w) =
      let x = c.chunk in
      let f = front_of s.front c.chunk false in
      let met = triggered (front_through (front_of s.front c.chunk false) (chunks_of cs)) in
      let body = (front_through (front_of s.front c.chunk false) (chunks_of cs)).body in
      let r = reached_by (front_of s.front c.chunk false) (chunks_of cs) in
      ap (λ (l : Bool). (advanced t (advance_of t s x l) cs).places) o
      ∙ (more w.next
      ∙ (ap (λ (ps : List Place). cond met (feed_all t true body r ps) ps) (unreached_places false _ s.places (reaches_of s.front x) w.nothing)
      ∙ ap (λ (l : List ℕ). cond met (feed_all t true body (l ++ r) s.places) s.places) (sym (ap bytes_in w.nothing))))
  more_way pre s c cs o later more (inr w) =
      let x = c.chunk in
      let f = front_of s.front c.chunk false in
      rw (stays_met (front_of s.front c.chunk false) (chunks_of cs) w.now)
      (ap (λ (l : Bool). (advanced t (advance_of t s x l) cs).places) o
      ∙ goes_on s x (advanced t (advance_of t s x false) cs).places (front_through f (chunks_of cs)).body (reached_by f (chunks_of cs)) (met_stretch false _ s.places (reaches_of s.front x) w.reaches w.within) (come_before f (chunks_of cs) w.now) (met_places (advance_of t s x false) cs later w.now))

  quiet_places : (pre : List ℕ) (s : State) (calls : List Call) → OnlyFinal calls → Untriggered pre s.front → (advanced t s calls).places ≡ settled s calls
  unfolding advance_of
  quiet_places pre s [] o q = absurd o
  quiet_places pre s (c ∷ []) o q = final_way pre s c o (chunk_way pre c.chunk s.front q)
  quiet_places pre s (c ∷ d ∷ ds) o q =
      more_way pre s c (d ∷ ds) o.0 o.1
      (λ (n : Untriggered (pre ++ c.chunk) (front_of s.front c.chunk false)). quiet_places (pre ++ c.chunk) (advance_of t s c.chunk false) (d ∷ ds) o.1 n)
      (chunk_way pre c.chunk s.front q)

-- ---- a closed stream
module _ (t : Tables) (bits : ℕ) (calls : List Call) (closed : ClosedStream t bits calls) where
  final : OnlyFinal calls
  final = final_closes t (start_of bits) calls refl closed.accepted closed.closed

  chain : after_calls t (start_of bits) calls ≡ advanced t (start_of bits) calls
  chain = calls_advance t (start_of bits) calls closed.accepted

  pub stream_front : (after_calls t (start_of bits) calls).front ≡ shut (front_through fresh (chunks_of calls))
  stream_front = ap (λ (s : State). s.front) chain ∙ front_shuts t (start_of bits) calls final

  pub stream_places : (after_calls t (start_of bits) calls).places ≡ cond (any is_trigger (stream_of calls)) (feed_all t true (length (rest_of (stream_of calls))) (reached_by fresh (chunks_of calls)) (slate.start_of bits)) (slate.start_of bits)
  stream_places =
      let start = slate.start_of bits in
      let reached = reached_by fresh (chunks_of calls) in
      ap (λ (s : State). s.places) chain
      ∙ (quiet_places t [] (start_of bits) calls final fresh_untriggered
      ∙ (ap (λ (met : Bool). cond met (feed_all t true (front_through fresh (chunks_of calls)).body reached start) start) (stream_met (chunks_of calls))
      ∙ ap (λ (body : ℕ). cond (any is_trigger (stream_of calls)) (feed_all t true body reached start) start) (stream_body (chunks_of calls))))

-- fed the last two or three bytes of the head, then the rest, and closed; or as they started
pub record FromStart (t : Tables) (bits : ℕ) (stream : List ℕ) (ps : List Place) : Type 0 where
  pub kept : ℕ
  pub two : 2 ≤ kept
  pub three : kept ≤ 3
  pub is : ps ≡ cond (any is_trigger stream) (feed_all t true (length (rest_of stream)) (last kept (head_of stream) ++ rest_of stream) (slate.start_of bits)) (slate.start_of bits)

from_reached : (t : Tables) (bits : ℕ) (stream reached : List ℕ) (ps : List Place) → ps ≡ cond (any is_trigger stream) (feed_all t true (length (rest_of stream)) reached (slate.start_of bits)) (slate.start_of bits) → FromStream stream reached → FromStart t bits stream ps
from_reached t bits stream reached ps e (inl (p, q)) = record { kept = 2; two = omega arith; three = omega arith; is = e ∙ rw p }
from_reached t bits stream reached ps e (inr h) =
    let start = slate.start_of bits in
    let from : reached ≡ last h.kept (head_of stream) ++ rest_of stream = h.is ∙ (ap (λ (l : List ℕ). last h.kept l ++ h.rest) (head_of_lem stream reached h) ∙ ap (λ (l : List ℕ). last h.kept (head_of stream) ++ l) (rest_of_lem stream reached h)) in
    record { kept = h.kept; two = h.two; three = h.three; is = e ∙ ap (λ (l : List ℕ). cond (any is_trigger stream) (feed_all t true (length (rest_of stream)) l start) start) from }

-- The places after a closed stream.
pub stream_from_start : (t : Tables) (bits : ℕ) (calls : List Call) → ClosedStream t bits calls → FromStart t bits (stream_of calls) (after_calls t (start_of bits) calls).places
stream_from_start t bits calls closed =
    from_reached t bits (stream_of calls) (reached_by fresh (chunks_of calls)) (after_calls t (start_of bits) calls).places (stream_places t bits calls closed) (stream_reaches (chunks_of calls))
