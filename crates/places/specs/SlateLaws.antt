-- Laws of the slate, for its code and its callers.
use Rattle.std.specs.Prelude.{◌≡◌, ℕ, zero, suc, ◌+◌, ◌/◌, ◌%◌, ◌<◌, ◌≤◌, Bool, true, false, cond, List, [], ◌∷◌, length, drop, pos, ◌==◌, nat_le, slice_index_or, refl, Ok, Err}
use Rattle.std.proofs.Math.Path.{sym, subst}
use Rattle.std.proofs.Common.{ap, ◌∙◌, le_of_suc-le-suc, not-suc-le-zero, drop-cons, le-leb}
use Rattle.std.proofs.Math.Bool.{and-false}
use Rattle.std.proofs.Math.Nat.{zero-add, add-zero}
use native.Mathlib.Omega.{arith}
use Rattle.std.proofs.Math.Seq.{drop-length}
use Rattle.std.proofs.lemmas.Bool.{lt-leb}
use Rattle.laws.specs.Each.{EachFrom, each_lacks, true_each, each_weaken}
use Rattle.laws.specs.Limit.{limit}
use Rattle.laws.specs.declared.Reason.TheVariants.{NotInSlate}
use Rattle.big5.specs.Scoring as big5
use Rattle.euckr.specs.Scoring as euckr
use Rattle.iso2022jp.specs.Iso2022Jp as iso2022jp
use Rattle.arabic_french.specs.ArabicFrench as arabic_french
use Rattle.caseless_script.specs.Caseless as caseless
use Rattle.logical.specs.Logical as logical
use Rattle.visual.specs.Visual as visual
use Rattle.shift_jis.specs.ShiftJis as shiftJis
use Rattle.utf8.specs.Utf8 as utf-8
use Rattle.kinds.specs.Kinds.{place_number, fresh_of}
use Rattle.kinds.specs.KindLaws.{reach_open}
use Rattle.kinds.specs.Sound.{reach_of}
use Rattle.kinds.specs.SoundLaws.{sound_more, fresh_sound}
use Rattle.tables.specs.Own.{Own, place_count, own_of}
use Rattle.tables.specs.Tables.{Tables}
use Rattle.kinds.specs.declared.machine.Machine.{Machine}
use Rattle.kinds.specs.declared.machine.Machine.TheVariants.{Utf8, Iso2022Jp, EucKr, Big5, Caseless, Logical, Visual, ArabicFrench, ShiftJis}
use Rattle.places.specs.Order.{dropped_b, ScoredFor, ZeroOrNone, FedOr, PlaceFor, SlateFor, place_b, slate_b}
use Rattle.places.specs.Kept.{Kept, AllKept}
use Rattle.places.specs.OrderLaws.{dropped_unfed, scored_more}
use Rattle.places.specs.Place.{place, feed_of}
use Rattle.places.specs.PlaceLaws.{feed_nil}
use Rattle.places.specs.Slate.{place_at, start_of, feed_from, feed_all}
use Rattle.places.specs.declared.place.Place.{Place}
use Rattle.places.specs.Score.{Score, no_score}

-- the place that is read, whatever would be read where there is none
pub place_read : (ps : List Place) (k : ℕ) (d : Place) → k < length ps → slice_index_or ps k d ≡ place_at k ps
place_read [] k d h = absurd (not-suc-le-zero h)
place_read (p ∷ ps) zero d h = refl
place_read (p ∷ ps) (suc k) d h = place_read ps k d (le_of_suc-le-suc h)

-- ---- a start is in order
taken_scored : (k : ℕ) (m : Machine) (t : Bool) → m ≡ fresh_of m → ScoredFor 0 0 false false k m (cond t (Ok (pos 0)) (no_score NotInSlate 0))
unfolding dropped_b
taken_scored k m true e = omega arith
taken_scored k m false e = (e, refl)

taken_zero : (t : Bool) → ZeroOrNone (cond t (Ok (pos 0)) (no_score NotInSlate 0))
taken_zero true = refl
taken_zero false = tt

begun : (k : ℕ) (m : Machine) (t : Bool) → place_number m ≡ k → m ≡ fresh_of m → PlaceFor 0 0 false false k (place m (cond t (Ok (pos 0)) (no_score NotInSlate 0)))
begun k m t e f =
    record {
      kind = e;
      sound = rw (reach_open m 0) (rw (sym f) at (fresh_sound 0 0 m));
      scored = rw (reach_open m 0) (taken_scored k m t f);
      fed_or = (f, taken_zero t);
    }

pub start_for : (bits : ℕ) → SlateFor 0 0 false false (start_of bits)
unfolding start_of fresh_of
start_for bits =
    record {
      most = omega arith;
      each = (begun 0 (Utf8 utf-8.fresh) (bits / 1 % 2 == 1) refl refl, (begun 1 (Iso2022Jp iso2022jp.fresh) (bits / 2 % 2 == 1) refl refl, (begun 2 (EucKr euckr.fresh) (bits / 4 % 2 == 1) refl refl, (begun 3 (Big5 big5.fresh) (bits / 8 % 2 == 1) refl refl, (begun 4 (Caseless caseless.fresh) (bits / 16 % 2 == 1) refl refl, (begun 5 (Logical logical.fresh) (bits / 32 % 2 == 1) refl refl, (begun 6 (Visual visual.fresh) (bits / 64 % 2 == 1) refl refl, (begun 7 (ArabicFrench arabic_french.fresh) (bits / 128 % 2 == 1) refl refl, (begun 8 (ShiftJis shiftJis.fresh) (bits / 256 % 2 == 1) refl refl, tt)))))))));
    }

-- ---- more bytes
place_more : (n m b c : ℕ) (fed : Bool) → n ≤ m → b ≤ c → (k : ℕ) (p : Place) → PlaceFor n b false fed k p → PlaceFor m c false true k p
place_more n m b c fed h l k p o =
    let x = p.machine in
    record {
      kind = o.kind;
      sound = rw (reach_open x m) (sound_more n m n m x h h (rw (reach_open x n) at o.sound));
      scored = rw (reach_open x m) (scored_more n m b c fed false k x p.score h l (rw (reach_open x n) at o.scored));
      fed_or = tt;
    }

pub slate_more : (n m b c : ℕ) (fed : Bool) (ps : List Place) → n ≤ m → b ≤ c → m ≤ limit → SlateFor n b false fed ps → SlateFor m c false true ps
slate_more n m b c fed ps h l most o = record { most = most; each = each_weaken (PlaceFor n b false fed) (PlaceFor m c false true) (place_more n m b c fed h l) 0 ps o.each }

-- ---- places that were not fed yet stay so, whatever the stream has
zero_scored : (n b c : ℕ) (closed fed : Bool) (k : ℕ) (m : Machine) (s : Score) → m ≡ fresh_of m → ZeroOrNone s → ScoredFor 0 b false false k m s → ScoredFor n c closed fed k m s
zero_scored n b c closed fed k m (Err why) e z o = (e, dropped_unfed b c false closed fed k why.reason why.at o.1)
zero_scored n b c closed fed k m (Ok s) e z o = rw z (omega arith)

unscored : (n b : ℕ) (k : ℕ) (m : Machine) (s : Score) → ZeroOrNone s → ScoredFor n b false false k m s → ScoredFor 0 b false false k m s
unscored n b k m (Err why) z o = o
unscored n b k m (Ok s) z o = rw z (omega arith)

unfed_for : (n m b c : ℕ) (closed fed : Bool) (k : ℕ) (p : Place) → FedOr fed p → PlaceFor n b false false k p → PlaceFor m c closed fed k p
unfed_for n m b c closed fed k p f o =
    let x = p.machine in
    let e = o.fed_or.0 in
    let z = o.fed_or.1 in
    record {
      kind = o.kind;
      sound = rw (sym e) at (fresh_sound m (reach_of x m closed) x);
      scored = zero_scored (reach_of x m closed) b c closed fed k x p.score e z (unscored (reach_of x n false) b k x p.score z o.scored);
      fed_or = f;
    }

pub slate_unfed : (n m b c : ℕ) (closed : Bool) (ps : List Place) → m ≤ limit → SlateFor n b false false ps → SlateFor m c closed false ps
slate_unfed n m b c closed ps l o = record { most = l; each = each_weaken (PlaceFor n b false false) (PlaceFor m c closed false) (λ (k : ℕ) (p : Place) (q : PlaceFor n b false false k p). unfed_for n m b c closed false k p q.fed_or q) 0 ps o.each }

-- ---- the places after a part are in order
module _ (t : Tables) (last : Bool) (body : ℕ) (xs : List ℕ) where
  each_fed : (n b : ℕ) → n + length xs ≤ limit → b ≤ body → (k : ℕ) (ps : List Place) → EachFrom (λ (j : ℕ) (p : Place). Kept (own_of t j) last body xs p) k ps → EachFrom (PlaceFor n b false true) k ps → EachFrom (PlaceFor (n + length xs) body last true) k (feed_from t last body xs k ps)
  unfolding feed_from
  each_fed n b h l k [] f o = tt
  each_fed n b h l k (p ∷ ps) f o = (f.0.kept n b k h l o.0, each_fed n b h l (suc k) ps f.1 o.1)

  pub fed_slate : (fed : Bool) (n b : ℕ) (ps : List Place) → n + length xs ≤ limit → b ≤ body → AllKept t last body xs ps → SlateFor n b false fed ps → SlateFor (n + length xs) body last true (feed_all t last body xs ps)
  fed_slate fed n b ps h l f o =
      record { most = h; each = each_fed n b h l 0 ps f (slate_more n n b b fed ps (omega arith) (omega arith) o.most o).each }

nil_kept_at : (t : Own) (body : ℕ) (p : Place) → Kept t false body [] p
nil_kept_at t body p =
    record { kept = λ (n b k : ℕ) h l o. rw (feed_nil t body p) (subst (λ (i : ℕ). PlaceFor i body false true k p) (sym (add-zero n)) (place_more n n b body true (omega arith) l k p o)) }

pub nil_kept : (t : Tables) (body k : ℕ) (ps : List Place) → EachFrom (λ (j : ℕ) (p : Place). Kept (own_of t j) false body [] p) k ps
nil_kept t body k [] = tt
nil_kept t body k (p ∷ ps) = (nil_kept_at (own_of t k) body p, nil_kept t body (suc k) ps)

-- an empty part that is not the last one leaves all as it is
feed_from_nil : (t : Tables) (body k : ℕ) (ps : List Place) → feed_from t false body [] k ps ≡ ps
unfolding feed_from
feed_from_nil t body k [] = refl
feed_from_nil t body k (p ∷ ps) = rw (feed_nil (own_of t k) body p, feed_from_nil t body (suc k) ps)

pub feed_all_nil : (t : Tables) (body : ℕ) (ps : List Place) → feed_all t false body [] ps ≡ ps
feed_all_nil t body ps = feed_from_nil t body 0 ps

-- what a part makes of place k: what it makes of it alone, over its own tables
module _ (t : Tables) (last : Bool) (body : ℕ) (xs : List ℕ) where
  feed_from_at : (k : ℕ) (ps : List Place) (d : Place) (i : ℕ) → i < length ps → slice_index_or (feed_from t last body xs k ps) i d ≡ feed_of (own_of t (k + i)) last body xs (slice_index_or ps i d)
  unfolding feed_from
  feed_from_at k [] d i h = absurd (not-suc-le-zero h)
  feed_from_at k (p ∷ ps) d zero h = rw add-zero
  feed_from_at k (p ∷ ps) d (suc i) h =
      let q : suc k + i ≡ k + suc i = omega arith in
      subst (λ (j : ℕ). slice_index_or (feed_from t last body xs (suc k) ps) i d ≡ feed_of (own_of t j) last body xs (slice_index_or ps i d)) q (feed_from_at (suc k) ps d i (le_of_suc-le-suc h))

  pub feed_at : (ps : List Place) (d : Place) (k : ℕ) → k < length ps → slice_index_or (feed_all t last body xs ps) k d ≡ feed_of (own_of t k) last body xs (slice_index_or ps k d)
  feed_at ps d k h = subst (λ (i : ℕ). slice_index_or (feed_all t last body xs ps) k d ≡ feed_of (own_of t i) last body xs (slice_index_or ps k d)) (zero-add k) (feed_from_at 0 ps d k h)

-- the places, one by one
pub joined : {p q : Place} {ps qs : List Place} → p ≡ q → ps ≡ qs → p ∷ ps ≡ q ∷ qs
joined e f = cc

module _ (ps : List Place) (d : Place) where
  abbrev pub listed : List Place
  listed = slice_index_or ps 0 d ∷ slice_index_or ps 1 d ∷ slice_index_or ps 2 d ∷ slice_index_or ps 3 d ∷ slice_index_or ps 4 d ∷ slice_index_or ps 5 d ∷ slice_index_or ps 6 d ∷ slice_index_or ps 7 d ∷ slice_index_or ps 8 d ∷ []

  module _ (e : length ps ≡ place_count) where
    next : (k : ℕ) {qs : List Place} → k < place_count → drop (suc k) ps ≡ qs → drop k ps ≡ slice_index_or ps k d ∷ qs
    next k h r = drop-cons ps k d (rw e h) ∙ ap (λ (l : List Place). slice_index_or ps k d ∷ l) r

    pub is_listed : ps ≡ listed
    is_listed =
        next 0 (omega arith) (next 1 (omega arith) (next 2 (omega arith) (next 3 (omega arith) (next 4 (omega arith) (next 5 (omega arith) (next 6 (omega arith) (next 7 (omega arith) (next 8 (omega arith) (rw e at (drop-length ps))))))))))

-- ---- the test of all places, each asked by itself
module _ (n body : ℕ) (closed fed : Bool) (ps : List Place) where
  abbrev test : ℕ → Place → Bool
  test = place_b n body closed fed

  pub slate_long : limit < n → false ≡ slate_b n body closed fed ps
  unfolding slate_b
  slate_long h = rw (lt-leb _ _ h)

  -- one that can't stand so
  pub slate_stop : (i : ℕ) (d : Place) → i < length ps → test i (slice_index_or ps i d) ≡ false → false ≡ slate_b n body closed fed ps
  unfolding slate_b
  slate_stop i d h e = sym (rw (each_lacks test 0 ps d i h (rw zero-add e)) (and-false (nat_le n limit)))

  pub slate_all : n ≤ limit → (d : Place) → length ps ≡ place_count → EachFrom (λ (i : ℕ) (p : Place). test i p ≡ true) 0 (listed ps d) → true ≡ slate_b n body closed fed ps
  unfolding slate_b
  slate_all h d e f = rw (le-leb _ _ h) (sym (true_each test (λ (i : ℕ) (p : Place). test i p ≡ true) (λ (i : ℕ) (p : Place) q. q) 0 ps (subst (λ (l : List Place). EachFrom (λ (i : ℕ) (p : Place). test i p ≡ true) 0 l) (sym (is_listed ps d e)) f)))
