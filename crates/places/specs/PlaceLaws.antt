-- Each way through feeding a place, and that it stays in order.
use Rattle.std.specs.Prelude.{◌≡◌, ℕ, ◌+◌, ◌-◌, ◌*◌, ◌^◌, ◌<◌, ◌≤◌, Bool, true, false, List, [], ◌++◌, length, ℤ, pos, unsigned_abs, refl, Ok, Err}
use Rattle.std.proofs.Math.Path.{sym}
use Rattle.std.proofs.Common.{ap, ◌∙◌, mul-le-mul_left, arith, length-append}
use Rattle.laws.specs.Answer.{Ran}
use Rattle.laws.specs.Carried.{Holds}
use Rattle.laws.specs.Limit.{limit}
use Rattle.laws.specs.Run.{Outcome, none, live, plus, run, ends_at, last_at, ends_some}
use Rattle.laws.specs.Still.{ends_from_zero}
use Rattle.laws.proofs.Still.{from_zero}
use Rattle.laws.specs.declared.Reason.{Reason}
use Rattle.weights.specs.Weights.{per_byte}
use Rattle.kinds.specs.KindLaws.{reach_open}
use Rattle.kinds.specs.Kinds.{fresh_of, step_of, close_of, ran_as, ran_of, Bounded, WeighedIn, Weighed}
use Rattle.kinds.specs.KindsLaws.{ran_fit}
use Rattle.kinds.specs.Sound.{reach_of}
use Rattle.kinds.specs.SoundLaws.{sound_more}
use Rattle.signed.specs.Sum.{sum_fits}
use Rattle.tables.specs.Own.{Own}
use Rattle.kinds.specs.declared.machine.Machine.{Machine}
use Rattle.places.specs.Order.{PlaceFor}
use Rattle.places.specs.Kept.{Kept, Ended}
use Rattle.places.specs.Fed.{settled_of}
use Rattle.places.specs.OrderLaws.{BoundedOut, KnownRun, fed_for, end_passed, reach_more, scored_more}
use Rattle.places.specs.Place.{place, place_as, byte_at, ran_from, part_of, end_at, end_from, end_of, feed_of}
use Rattle.places.specs.Steps.{FitPart}
use Rattle.places.specs.declared.place.Place.{Place}
use Rattle.places.specs.Score.{Score, no_score}

-- ---- the ways through
module _ (t : Own) (body : ℕ) (xs : List ℕ) (p : Place) where
  module _ (d : Reason) (at : ℕ) (e : p.score ≡ no_score d at) where
    pub part_none : part_of t body xs p ≡ p
    unfolding ran_from
    part_none = rw e

    pub feed_none : (last : Bool) → p ≡ feed_of t last body xs p
    unfolding ran_from end_from
    feed_none true = rw (part_none, e)
    feed_none false = sym part_none

  module _ (s : ℤ) (e : p.score ≡ Ok s) where
    -- the outcome of the part, and its place
    abbrev pub run_as : Place
    run_as = place_as p.machine (byte_at body xs (ends_at (step_of t) (live p.machine s) xs)) (run (step_of t) (live p.machine s) xs)

    pub feed_open : run_as ≡ feed_of t false body xs p
    unfolding ran_from
    feed_open = rw e

    pub feed_last : end_of t body run_as ≡ feed_of t true body xs p
    feed_last = ap (end_of t body) feed_open

module _ (t : Own) (body : ℕ) (p : Place) where
  pub end_none : (d : Reason) (at : ℕ) → p.score ≡ no_score d at → p ≡ end_of t body p
  unfolding end_from
  end_none d at e = rw e

  pub end_live : (z : ℤ) → p.score ≡ Ok z → place_as p.machine (end_at p.machine body) (plus z (close_of t p.machine)) ≡ end_of t body p
  unfolding end_from
  end_live z e = rw e

-- ---- what is counted: in a part that begins with bytes of the head and has all that has come after it, a byte of the head has
-- place 0 and the n-th one after it place n; in a later part the n-th byte stands n behind all that came before
module _ (hs xs : List ℕ) (n : ℕ) where
  pub head_place : n ≤ length hs → byte_at (length xs) (hs ++ xs) n ≡ 0
  head_place h = omega (arith, length-append hs xs)

  pub rest_place : n ≤ length xs → byte_at (length xs) (hs ++ xs) (length hs + n) ≡ n
  rest_place h = omega (arith, length-append hs xs)

pub later_place : (b : ℕ) (xs : List ℕ) (n : ℕ) → n ≤ length xs → byte_at (b + length xs) xs n ≡ b + n
later_place b xs n h = omega arith

-- an empty part that is not the last one leaves a place as it is
pub feed_nil : (t : Own) (body : ℕ) (p : Place) → feed_of t false body [] p ≡ p
unfolding place_as run
feed_nil t body p = by p.score refl
  where
    by : (c : Score) → p.score ≡ c → feed_of t false body [] p ≡ p
    by (Err why) e = part_none t body [] p why.reason why.at e
    by (Ok s) e = sym (feed_open t body [] p s e) ∙ back s e
      where
        back : (s : ℤ) (e : p.score ≡ Ok s) → run_as t body [] p s e ≡ p
        back s e = ap (place p.machine) (sym e)

-- ---- what the code's answers say of outcomes
pub bounded_out : (c at : ℕ) (o : Outcome Machine) → Bounded c (ran_as at o) → BoundedOut c o
bounded_out c at (none d) h = tt
bounded_out c at (live m g) h = h

weighed_out : (m : Machine) (w : List ℤ) (at : ℕ) (o : Outcome Machine) → Weighed m w (ran_as at o) → Holds (λ (x : Machine). WeighedIn m w) o
weighed_out m w at (none d) h = tt
weighed_out m w at (live n g) h = h

module _ (t : Own) (xs : List ℕ) (m : Machine) where
  pub ran_is : (r : Ran Machine) (at : ℕ) → r ≡ ran_as at (run (step_of t) (live m (pos 0)) xs) → Bounded (per_byte * length xs) r → Weighed m t.weights r → KnownRun t xs m
  ran_is r at e s w =
      let o = run (step_of t) (live m (pos 0)) xs in
      record { small = bounded_out (per_byte * length xs) at o (rw e at s); weighed = weighed_out m t.weights at o (rw e at w) }

-- ---- it stays in order
module _ (t : Own) (body : ℕ) (xs : List ℕ) (p : Place) where
  module _ (d : Reason) (at : ℕ) (e : p.score ≡ no_score d at) where
    none_for : (last : Bool) (n b k : ℕ) → b ≤ body → PlaceFor n b false true k p → PlaceFor (n + length xs) body last true k p
    none_for last n b k l o =
        let m = p.machine in
        let r : n ≤ reach_of m (n + length xs) last = reach_more m n (n + length xs) last (omega arith) in
        record {
          kind = o.kind;
          sound = sound_more n (n + length xs) n (reach_of m (n + length xs) last) m (omega arith) r (rw (reach_open m n) at o.sound);
          scored = scored_more n (reach_of m (n + length xs) last) b body true last k m p.score r l (rw (reach_open m n) at o.scored);
          fed_or = tt;
        }

    pub kept_none : (last : Bool) → Kept t last body xs p
    kept_none last = record { kept = λ (n b k : ℕ) h l o. rw (sym (feed_none t body xs p d at e last)) (none_for last n b k l o) }

  module _ (s : ℤ) (e : p.score ≡ Ok s) (ran : KnownRun t xs p.machine) where
    fed_on : (n b k : ℕ) → PlaceFor n b false true k p → PlaceFor (n + length xs) body false true k (run_as t body xs p s e)
    fed_on n b k o =
        let m = p.machine in
        let h : unsigned_abs s ≤ per_byte * n = rw (reach_open m n, e) at o.scored in
        fed_for t xs m ran n body k s o.kind (rw (reach_open m n) at o.sound) h

    pub kept_open : Kept t false body xs p
    kept_open = record { kept = λ (n b k : ℕ) h l o. rw (sym (feed_open t body xs p s e)) (fed_on n b k o) }

    pub kept_last : Ended t body (run_as t body xs p s e) → Kept t true body xs p
    kept_last f = record { kept = λ (n b k : ℕ) h l o. rw (sym (feed_last t body xs p s e)) (f.kept (n + length xs) k (fed_on n b k o)) }

-- ---- what an answer settles is the outcome's place
pub settled_as : (m : Machine) (s : ℤ) (body bytes at : ℕ) (o : Outcome Machine) (c : ℕ) → BoundedOut c o → unsigned_abs s + c < 2 ^ 63 → settled_of (fresh_of m) s body bytes (ran_as at o) ≡ place_as m (body - (bytes - at - 1)) (plus s o)
unfolding settled_of place_as plus
settled_as m s body bytes at (none d) c h l = refl
settled_as m s body bytes at (live n g) c h l = ap (λ (z : ℤ). place n (Ok z)) (sum_fits s g (omega (arith, h)))

-- the place of a byte by its offset: what drops out has taken a byte
last_place : (t : Own) (body : ℕ) (xs : List ℕ) (m : Machine) (z : ℤ) (o : Outcome Machine) → run (step_of t) (live m z) xs ≡ o → place_as m (body - (length xs - last_at (step_of t) (live m z) xs - 1)) o ≡ place_as m (byte_at body xs (ends_at (step_of t) (live m z) xs)) o
unfolding place_as
last_place t body xs m z (none d) e = ap (λ (i : ℕ). place (fresh_of m) (no_score d i)) (omega (arith, ends_some (step_of t) m z xs d e))
last_place t body xs m z (live n g) e = refl

-- a live place that is fit, and an answer r to a part
module _ (t : Own) (body : ℕ) (xs : List ℕ) (p : Place) (fit : FitPart t p (length xs)) (z : ℤ) (e : p.score ≡ Ok z) where
  sum_room : unsigned_abs z + per_byte * length xs < 2 ^ 63
  sum_room =
      let h : unsigned_abs z ≤ per_byte * limit = rw e at fit.small in
      let m : per_byte * length xs ≤ per_byte * limit = mul-le-mul_left per_byte fit.short in
      omega arith

  pub fed_way : (r : Ran Machine) → r ≡ ran_of t p.machine xs → Bounded (per_byte * length xs) r → Weighed p.machine t.weights r → (settled_of (fresh_of p.machine) z body (length xs) r ≡ run_as t body xs p z e) × KnownRun t xs p.machine
  fed_way r a h v =
      let m = p.machine in
      let o = run (step_of t) (live p.machine (pos 0)) xs in
      let at = last_at (step_of t) (live p.machine (pos 0)) xs in
      let f : r ≡ ran_as (last_at (step_of t) (live p.machine (pos 0)) xs) (run (step_of t) (live p.machine (pos 0)) xs) = a ∙ ran_fit t xs fit.short p.machine fit.sized fit.sound in
      let k = ran_is t xs m r at f h v in
      let ends = sym (ends_from_zero (step_of t) m z xs) in
      (ap (settled_of (fresh_of m) z body (length xs)) f ∙ (settled_as m z body (length xs) at o (per_byte * length xs) k.small sum_room ∙ (ap (place_as m (body - (length xs - at - 1))) (sym (from_zero (step_of t) m z xs)) ∙ (ap (λ (i : ℕ). place_as m (body - (length xs - (i - 1) - 1)) (run (step_of t) (live m z) xs)) ends ∙ last_place t body xs m z (run (step_of t) (live m z) xs) refl))), k)

-- the end of the stream, without a score
pub ended_none : (t : Own) (body : ℕ) (p : Place) (d : Reason) (at : ℕ) → p.score ≡ no_score d at → Ended t body p
ended_none t body p d at e = record { kept = λ (n k : ℕ) o. rw (sym (end_none t body p d at e)) (end_passed t n body k p o) }
