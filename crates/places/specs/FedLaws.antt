-- In a state in order, what the code makes of the places is what `feed_all` says, and they stay in order.
use Rattle.std.specs.Prelude.{◌≡◌, ℕ, suc, ◌+◌, ◌-◌, ◌*◌, ◌^◌, ◌<◌, ◌≤◌, Bool, true, false, cond, List, [], ◌∷◌, length, get_or, ℤ, pos, slice_index_or, unsigned_abs, Ok, Err}
use Rattle.std.proofs.Math.Path.{refl, ap}
use Rattle.std.proofs.Common.{sym, subst, ◌∙◌, mul-le-mul_left, arith, eq-eqb}
use Rattle.laws.specs.Answer.{Ran}
use Rattle.laws.specs.Each.{EachFrom}
use Rattle.laws.specs.Limit.{limit}
use Rattle.laws.specs.Run.{live, plus, run, run_one, ends_one}
use Rattle.laws.specs.declared.Reason.{Reason}
use Rattle.laws.specs.declared.Reason.TheVariants.{NotInSlate}
use Rattle.laws.specs.declared.Stop.TheVariants as stop
use Rattle.signed.specs.Sum.{sum_of}
use Rattle.single.specs.Class.{space}
use Rattle.weights.specs.Weights.{per_byte}
use Rattle.kinds.specs.KindLaws.{reach_open}
use Rattle.kinds.specs.Kinds.{place_number, is_single, fresh_of, step_of, close_of, ran_as, ran_of, closed_of, ran_at, decoded_end, Bounded, Weighed}
use Rattle.kinds.specs.KindsLaws.{ran_fit, closed_fit}
use Rattle.kinds.specs.Sound.{SoundFor, takes_space}
use Rattle.kinds.specs.SoundLaws.{sound_more}
use Rattle.tables.specs.Own.{Own, place_count, own_of, SizedAt}
use Rattle.tables.proofs.OwnLaws.{own_sized}
use Rattle.tables.specs.Tables.{Tables, Sized}
use Rattle.kinds.specs.declared.machine.Machine.{Machine}
use Rattle.kinds.specs.declared.machine.Machine.TheVariants.{Utf8, Iso2022Jp, EucKr, Big5, Caseless, Logical, Visual, ArabicFrench, ShiftJis}
use Rattle.places.specs.Fed.{fresh_at, past, settled_of, settled_from, fed_as, decoder_ended, ended_as, fed_each_from, fed_each, ended_each_from, ended_each, slate_fed, KnownRan, KnownFrom, KnownFed, AllKnown, KnownEnd, EndKnown, SlateKnown}
use Rattle.places.specs.Kept.{Kept, Ended, AllKept}
use Rattle.places.specs.Order.{ScoredFor, PlaceFor, SlateFor}
use Rattle.places.specs.OrderLaws.{BoundedOut, KnownRun, bounded_more, decoder_end, end_for}
use Rattle.places.specs.Place.{place, place_as, end_at, end_of, feed_of}
use Rattle.places.specs.PlaceLaws.{feed_none, feed_open, end_none, end_live, bounded_out, settled_as, fed_way, kept_none, kept_open, kept_last, ended_none}
use Rattle.places.specs.Slate.{place_at, feed_from, feed_all}
use Rattle.places.specs.SlateLaws.{place_read, joined, listed, is_listed, slate_more}
use Rattle.places.specs.Steps.{BoundedScore, FitPart}
use Rattle.places.specs.declared.place.Place.{Place}
use Rattle.places.specs.Score.{Score, no_score}

-- ---- the kinds, by their numbers
fresh_number : (m : Machine) → fresh_of m ≡ fresh_at (place_number m)
unfolding fresh_of
fresh_number (Utf8 m) = refl
fresh_number (Iso2022Jp m) = refl
fresh_number (EucKr m) = refl
fresh_number (Big5 m) = refl
fresh_number (Caseless m) = refl
fresh_number (Logical m) = refl
fresh_number (Visual m) = refl
fresh_number (ArabicFrench m) = refl
fresh_number (ShiftJis m) = refl

space_single : (m : Machine) → takes_space m ≡ is_single (place_number m)
space_single (Utf8 m) = refl
space_single (Iso2022Jp m) = refl
space_single (EucKr m) = refl
space_single (Big5 m) = refl
space_single (Caseless m) = refl
space_single (Logical m) = refl
space_single (Visual m) = refl
space_single (ArabicFrench m) = refl
space_single (ShiftJis m) = refl

-- a kind's fresh machine is its place's, and the end is a space to it where it is one to the place
module _ {S : Type 0} (whole : S → Machine) (fresh : S) (k : ℕ) (numbered : place_number (whole fresh) ≡ k) where
  pub kind_fresh : fresh_of (whole fresh) ≡ whole fresh → whole fresh ≡ fresh_at k
  kind_fresh e = sym e ∙ (fresh_number (whole fresh) ∙ ap fresh_at numbered)

  pub kind_space : (space : Bool) → takes_space (whole fresh) ≡ space → is_single k ≡ space
  kind_space space e = ap is_single (sym numbered) ∙ (sym (space_single (whole fresh)) ∙ e)

below_count : (m : Machine) → place_number m < place_count
below_count (Utf8 m) = omega arith
below_count (Iso2022Jp m) = omega arith
below_count (EucKr m) = omega arith
below_count (Big5 m) = omega arith
below_count (Caseless m) = omega arith
below_count (Logical m) = omega arith
below_count (Visual m) = omega arith
below_count (ArabicFrench m) = omega arith
below_count (ShiftJis m) = omega arith

-- ---- the end of the stream, as each kind takes it
module _ (t : Own) where
  decoder_closed : (m : Machine) → is_single (place_number m) ≡ false → decoded_end m ≡ closed_of t m
  unfolding closed_of
  decoder_closed (Utf8 m) h = refl
  decoder_closed (Iso2022Jp m) h = refl
  decoder_closed (EucKr m) h = refl
  decoder_closed (Big5 m) h = refl
  decoder_closed (Caseless m) h = cc
  decoder_closed (Logical m) h = cc
  decoder_closed (Visual m) h = cc
  decoder_closed (ArabicFrench m) h = cc
  decoder_closed (ShiftJis m) h = refl

  -- a space is what the end is to the others
  space_closed : (m : Machine) → is_single (place_number m) ≡ true → step_of t m space ≡ close_of t m
  unfolding step_of close_of
  space_closed (Utf8 m) h = cc
  space_closed (Iso2022Jp m) h = cc
  space_closed (EucKr m) h = cc
  space_closed (Big5 m) h = cc
  space_closed (Caseless m) h = refl
  space_closed (Logical m) h = refl
  space_closed (Visual m) h = refl
  space_closed (ArabicFrench m) h = refl
  space_closed (ShiftJis m) h = cc

-- the end's place, by what the answer says: no byte of an empty part, or the space
decoder_at : (b : ℕ) (m : Machine) → is_single (place_number m) ≡ false → b - (0 - 0 - 1) ≡ end_at m b
decoder_at b (Utf8 m) h = omega arith
decoder_at b (Iso2022Jp m) h = omega arith
decoder_at b (EucKr m) h = omega arith
decoder_at b (Big5 m) h = omega arith
decoder_at b (Caseless m) h = cc
decoder_at b (Logical m) h = cc
decoder_at b (Visual m) h = cc
decoder_at b (ArabicFrench m) h = cc
decoder_at b (ShiftJis m) h = omega arith

single_at : (b : ℕ) (m : Machine) → is_single (place_number m) ≡ true → b ≤ limit → past b - (1 - 0 - 1) ≡ end_at m b
single_at b (Utf8 m) h l = cc
single_at b (Iso2022Jp m) h l = cc
single_at b (EucKr m) h l = cc
single_at b (Big5 m) h l = cc
single_at b (Caseless m) h l = omega arith
single_at b (Logical m) h l = omega arith
single_at b (Visual m) h l = omega arith
single_at b (ArabicFrench m) h l = omega arith
single_at b (ShiftJis m) h l = cc

-- ---- a place in order, over tables of its own lengths
score_bounded : (n b k : ℕ) (m : Machine) (c : Score) → n ≤ limit → ScoredFor n b false true k m c → BoundedScore (per_byte * limit) c
score_bounded n b k m (Err why) h q = tt
score_bounded n b k m (Ok s) h q = let e : per_byte * n ≤ per_byte * limit = mul-le-mul_left per_byte h in omega (arith, q)

module _ (k : ℕ) (t : Own) (sized : SizedAt k t) (n b : ℕ) (p : Place) (o : PlaceFor n b false true k p) where
  blank : (d : Reason) (at : ℕ) → p.score ≡ no_score d at → place (fresh_at k) (no_score d at) ≡ p
  blank d at e =
      let f : p.machine ≡ fresh_of p.machine = (rw e at o.scored).0 in
      let g : fresh_at k ≡ p.machine = sym (f ∙ (fresh_number p.machine ∙ ap fresh_at o.kind)) in
      rw (g, sym e)

  sound_limit : n ≤ limit → SoundFor limit limit p.machine
  sound_limit h = sound_more n limit n limit p.machine h h (rw (reach_open p.machine n) at o.sound)

  own_lengths : SizedAt (place_number p.machine) t
  own_lengths = subst (λ (i : ℕ). SizedAt i t) (sym o.kind) sized

  fit : (xs : List ℕ) → n + length xs ≤ limit → FitPart t p (length xs)
  fit xs h =
      record {
        sized = own_lengths;
        sound = sound_limit (omega (arith, h));
        small = score_bounded n b k p.machine p.score (omega (arith, h)) (rw (reach_open p.machine n) at o.scored);
        short = omega (arith, h);
      }

  ran_own : (xs : List ℕ) → ran_at k t p.machine xs ≡ ran_of t p.machine xs
  ran_own xs = rw (eq-eqb _ _ o.kind)

  fresh_own : fresh_at k ≡ fresh_of p.machine
  fresh_own = sym (fresh_number p.machine ∙ ap fresh_at o.kind)

  -- ---- a part
  module _ (body : ℕ) (xs : List ℕ) (short : n + length xs ≤ limit) where
    fed_live : (z : ℤ) → p.score ≡ Ok z → KnownRan k t xs p.machine → (settled_of (fresh_at k) z body (length xs) (ran_at k t p.machine xs) ≡ feed_of t false body xs p) × Kept t false body xs p
    fed_live z e known =
        let w = fed_way t body xs p (fit xs short) z e (ran_at k t p.machine xs) (ran_own xs) known.small known.weighed in
        (ap (λ (f : Machine). settled_of f z body (length xs) (ran_at k t p.machine xs)) fresh_own ∙ (w.0 ∙ feed_open t body xs p z e), kept_open t body xs p z e w.1)

    -- of a live place the code knows the run
    run_known : (z : ℤ) → p.score ≡ Ok z → KnownFed k t xs p → KnownRun t xs p.machine
    run_known z e known =
        let k' : KnownRan k t xs p.machine = rw e at known in
        (fed_way t body xs p (fit xs short) z e (ran_at k t p.machine xs) (ran_own xs) k'.small k'.weighed).1

    pub part_fed : KnownFed k t xs p → (fed_as k t body xs p ≡ feed_of t false body xs p) × Kept t false body xs p
    unfolding settled_from
    part_fed known = by p.score refl known
      where
        by : (c : Score) → p.score ≡ c → KnownFrom k t xs p.machine c → (settled_from (fresh_at k) body (length xs) (ran_at k t p.machine xs) c ≡ feed_of t false body xs p) × Kept t false body xs p
        by (Err why) e known = (blank why.reason why.at e ∙ feed_none t body xs p why.reason why.at e false, kept_none t body xs p why.reason why.at e false)
        by (Ok z) e known = fed_live z e known

  -- ---- the end of the stream
  module _ (most : n ≤ limit) (few : b ≤ limit) where
    score_small : (z : ℤ) → p.score ≡ Ok z → unsigned_abs z + per_byte < 2 ^ 63
    score_small z e =
        let h : unsigned_abs z ≤ per_byte * n = rw (reach_open p.machine n, e) at o.scored in
        let m : per_byte * n ≤ per_byte * limit = mul-le-mul_left per_byte most in
        omega arith

    -- an answer whose place is the end's
    end_live_as : (z : ℤ) → p.score ≡ Ok z → (f : Machine) → f ≡ fresh_of p.machine → (r : Ran Machine) (body bytes at : ℕ) → r ≡ ran_as at (close_of t p.machine) → body - (bytes - at - 1) ≡ end_at p.machine b → BoundedOut per_byte (close_of t p.machine) → (settled_of f z body bytes r ≡ end_of t b p) × Ended t b p
    end_live_as z e f g r body bytes at i q h =
        let m = p.machine in
        let c = close_of t p.machine in
        (ap (λ (x : Machine). settled_of x z body bytes r) g ∙ (ap (settled_of (fresh_of m) z body bytes) i ∙ (settled_as m z body bytes at c per_byte h (score_small z e) ∙ (ap (λ (j : ℕ). place_as m j (plus z c)) q ∙ end_live t b p z e))), record { kept = λ (j i : ℕ) x. end_for t j b i p h x })

    decoder_way : is_single (place_number p.machine) ≡ false → (decoder_ended b p ≡ end_of t b p) × Ended t b p
    unfolding settled_from
    decoder_way l = by p.score refl
      where
        by : (c : Score) → p.score ≡ c → (settled_from (fresh_of p.machine) b 0 (decoded_end p.machine) c ≡ end_of t b p) × Ended t b p
        by (Err why) e = (ap (λ (f : Machine). place f (Err why)) (sym fresh_own) ∙ (blank why.reason why.at e ∙ end_none t b p why.reason why.at e), ended_none t b p why.reason why.at e)
        by (Ok z) e =
            let m = p.machine in
            let s : SoundFor n n p.machine = rw (reach_open p.machine n) at o.sound in
            let c = closed_fit t m own_lengths (sound_more n (2 * limit) n (2 * limit) m (omega (arith, most)) (omega (arith, most)) s) in
            end_live_as z e (fresh_of m) refl (decoded_end m) b 0 0 (decoder_closed t m l ∙ c) (decoder_at b m l) (bounded_more 0 per_byte (close_of t m) (omega arith) (decoder_end t n m l s))

    -- the answer to a space is the answer to the end
    space_ran : is_single (place_number p.machine) ≡ true → ran_at k t p.machine (space ∷ []) ≡ ran_as 0 (close_of t p.machine)
    space_ran l =
        let m = p.machine in
        ran_own (space ∷ []) ∙ (ran_fit t (space ∷ []) (omega arith) m own_lengths (sound_limit most) ∙ (ap (λ (i : ℕ). ran_as (i - 1) (run (step_of t) (live m (pos 0)) (space ∷ []))) (ends_one (step_of t) m space) ∙ ap (ran_as 0) (run_one (step_of t) m space ∙ space_closed t m l)))

    single_way : is_single (place_number p.machine) ≡ true → KnownFed k t (space ∷ []) p → (fed_as k t (past b) (space ∷ []) p ≡ end_of t b p) × Ended t b p
    unfolding settled_from
    single_way l known = by p.score refl known
      where
        by : (c : Score) → p.score ≡ c → KnownFrom k t (space ∷ []) p.machine c → (settled_from (fresh_at k) (past b) 1 (ran_at k t p.machine (space ∷ [])) c ≡ end_of t b p) × Ended t b p
        by (Err why) e known = (blank why.reason why.at e ∙ end_none t b p why.reason why.at e, ended_none t b p why.reason why.at e)
        by (Ok z) e known =
            let m = p.machine in
            let h : Bounded per_byte (ran_at k t p.machine (space ∷ [])) = known.small in
            end_live_as z e (fresh_at k) fresh_own (ran_at k t p.machine (space ∷ [])) (past b) 1 0 (space_ran l) (single_at b m l few) (bounded_out per_byte 0 (close_of t m) (rw (space_ran l) at h))

    pub end_fed : KnownEnd k t p → (ended_as k t b p ≡ end_of t b p) × Ended t b p
    end_fed known = by (is_single k) refl
      where
        by : (l : Bool) → is_single k ≡ l → (cond l (fed_as k t (past b) (space ∷ []) p) (decoder_ended b p) ≡ end_of t b p) × Ended t b p
        by true e = single_way (rw o.kind e) (known e)
        by false e = decoder_way (rw o.kind e)

-- ---- a part that is the last one
module _ (k : ℕ) (t : Own) (sized : SizedAt k t) (n b : ℕ) (p : Place) (o : PlaceFor n b false true k p) (body : ℕ) (more : b ≤ body) (few : body ≤ limit) (xs : List ℕ) (short : n + length xs ≤ limit) where
  pub last_fed : KnownFed k t xs p → KnownEnd k t (fed_as k t body xs p) → (ended_as k t body (fed_as k t body xs p) ≡ feed_of t true body xs p) × Kept t true body xs p
  last_fed known end = by p.score refl
    where
      -- what the part has left
      part : (fed_as k t body xs p ≡ feed_of t false body xs p) × Kept t false body xs p
      part = part_fed k t sized n b p o body xs short known

      ended : (ended_as k t body (feed_of t false body xs p) ≡ end_of t body (feed_of t false body xs p)) × Ended t body (feed_of t false body xs p)
      ended = end_fed k t sized (n + length xs) body (feed_of t false body xs p) (part.1.kept n b k short more o) short few (subst (KnownEnd k t) part.0 end)

      by : (c : Score) → p.score ≡ c → (ended_as k t body (fed_as k t body xs p) ≡ feed_of t true body xs p) × Kept t true body xs p
      by (Err why) e = (ap (ended_as k t body) part.0 ∙ ended.0, kept_none t body xs p why.reason why.at e true)
      by (Ok z) e =
          let q = feed_open t body xs p z e in
          (ap (ended_as k t body) part.0 ∙ ended.0, kept_last t body xs p z e (run_known k t sized n b p o body xs short z e known) (subst (Ended t body) (sym q) ended.1))

-- ---- all places
module _ (t : Tables) (z : Sized t) (n b : ℕ) (body : ℕ) (more : b ≤ body) (few : body ≤ limit) (xs : List ℕ) (short : n + length xs ≤ limit) where
  sized_at : (k : ℕ) (p : Place) → PlaceFor n b false true k p → SizedAt k (own_of t k)
  sized_at k p o = own_sized t z k (rw o.kind at (below_count p.machine))

  each_part : (k : ℕ) (ps : List Place) → EachFrom (PlaceFor n b false true) k ps → EachFrom (λ (j : ℕ) (p : Place). KnownFed j (own_of t j) xs p) k ps → (fed_each_from t body xs k ps ≡ feed_from t false body xs k ps) × EachFrom (λ (j : ℕ) (p : Place). Kept (own_of t j) false body xs p) k ps
  unfolding fed_each_from feed_from
  each_part k [] o f = (refl, tt)
  each_part k (p ∷ ps) o f =
      let a = part_fed k (own_of t k) (sized_at k p o.0) n b p o.0 body xs short f.0 in
      let c = each_part (suc k) ps o.1 f.1 in
      (joined a.0 c.0, (a.1, c.1))

  each_last : (k : ℕ) (ps : List Place) → EachFrom (PlaceFor n b false true) k ps → EachFrom (λ (j : ℕ) (p : Place). KnownFed j (own_of t j) xs p) k ps → EachFrom (λ (j : ℕ) (p : Place). KnownEnd j (own_of t j) p) k (fed_each_from t body xs k ps) → (ended_each_from t body k (fed_each_from t body xs k ps) ≡ feed_from t true body xs k ps) × EachFrom (λ (j : ℕ) (p : Place). Kept (own_of t j) true body xs p) k ps
  unfolding fed_each_from ended_each_from feed_from
  each_last k [] o f e = (refl, tt)
  each_last k (p ∷ ps) o f e =
      let a = last_fed k (own_of t k) (sized_at k p o.0) n b p o.0 body more few xs short f.0 e.0 in
      let c = each_last (suc k) ps o.1 f.1 e.1 in
      (joined a.0 c.0, (a.1, c.1))

  pub slate_fed_lem : (last fed : Bool) (ps : List Place) → SlateFor n b false fed ps → SlateKnown t last body xs ps → (slate_fed t last body xs ps ≡ feed_all t last body xs ps) × AllKept t last body xs ps
  slate_fed_lem true fed ps o f = each_last 0 ps (slate_more n n b b fed ps (omega arith) (omega arith) o.most o).each f.0 f.1
  slate_fed_lem false fed ps o f = each_part 0 ps (slate_more n n b b fed ps (omega arith) (omega arith) o.most o).each f

-- ---- each way through the code of one place
module _ (f : Machine) (s : ℤ) (body bytes : ℕ) (r : Ran Machine) where
  pub settled_live : (m : Machine) (g z : ℤ) → r ≡ Ok (m, g) → z ≡ sum_of s g → place m (Ok z) ≡ settled_of f s body bytes r
  unfolding settled_of
  settled_live m g z e q = rw (e, q)

  pub settled_dropped : (d : Reason) (at i : ℕ) → r ≡ Err (stop.Dropped d at) → i ≡ body - (bytes - at - 1) → place f (no_score d i) ≡ settled_of f s body bytes r
  unfolding settled_of
  settled_dropped d at i e q = rw (e, q)

  pub settled_unfit : r ≡ Err stop.Unfit → place f (no_score NotInSlate 0) ≡ settled_of f s body bytes r
  unfolding settled_of
  settled_unfit e = rw e

-- place k, which the code reads from all places
module _ (k : ℕ) (t : Own) (body : ℕ) (xs : List ℕ) (ps : List Place) (d : Place) (within : k < length ps) (f : Machine) (fresh : f ≡ fresh_at k) where
  read : (q : Place) → (q ≡ fed_as k t body xs (slice_index_or ps k d)) × KnownFed k t xs (slice_index_or ps k d) → (q ≡ fed_as k t body xs (place_at k ps)) × KnownFed k t xs (place_at k ps)
  read q h = subst (λ (p : Place). (q ≡ fed_as k t body xs p) × KnownFed k t xs p) (place_read ps k d within) h

  none_fed : (p : Place) (r : Reason) (at : ℕ) → p.score ≡ no_score r at → (place f p.score ≡ fed_as k t body xs p) × KnownFed k t xs p
  unfolding settled_from
  none_fed p r at e = rw (e, fresh) (refl, tt)

  pub way_none : (r : Reason) (at : ℕ) → (get_or ps k d).score ≡ no_score r at → (q : Place) → q ≡ place f (get_or ps k d).score → (q ≡ fed_as k t body xs (place_at k ps)) × KnownFed k t xs (place_at k ps)
  way_none r at e q i = let h = none_fed (slice_index_or ps k d) r at e in read q (i ∙ h.0, h.1)

  live_fed : (p : Place) (z : ℤ) → p.score ≡ Ok z → (r : Ran Machine) (q : Place) → r ≡ ran_at k t p.machine xs → Bounded (per_byte * length xs) r → Weighed p.machine t.weights r → q ≡ settled_of f z body (length xs) r → (q ≡ fed_as k t body xs p) × KnownFed k t xs p
  unfolding settled_from
  live_fed p z e r q a h v i =
      rw e (i ∙ (ap (λ (x : Machine). settled_of x z body (length xs) r) fresh ∙ ap (settled_of (fresh_at k) z body (length xs)) a), record { small = rw a at h; weighed = rw a at v })

  pub way_live : (z : ℤ) → (get_or ps k d).score ≡ Ok z → (r : Ran Machine) (q : Place) → r ≡ ran_at k t (get_or ps k d).machine xs → Bounded (per_byte * length xs) r → Weighed (get_or ps k d).machine t.weights r → q ≡ settled_of f z body (length xs) r → (q ≡ fed_as k t body xs (place_at k ps)) × KnownFed k t xs (place_at k ps)
  way_live z e r q a h v i = read q (live_fed (slice_index_or ps k d) z e r q a h v i)

module _ (body : ℕ) (p : Place) (f : Machine) (fresh : f ≡ fresh_of p.machine) where
  pub end_way_none : (d : Reason) (at : ℕ) → p.score ≡ no_score d at → (q : Place) → q ≡ place f p.score → q ≡ decoder_ended body p
  unfolding settled_from
  end_way_none d at e q i = i ∙ rw (e, fresh)

  pub end_way_live : (z : ℤ) → p.score ≡ Ok z → (r : Ran Machine) (q : Place) → r ≡ decoded_end p.machine → q ≡ settled_of f z body 0 r → q ≡ decoder_ended body p
  unfolding settled_from
  end_way_live z e r q a i = rw e (i ∙ (ap (λ (x : Machine). settled_of x z body 0 r) fresh ∙ ap (settled_of (fresh_of p.machine) z body 0) a))

-- place k, which the code reads from all places
pub ended_read : (body : ℕ) (ps : List Place) (d : Place) (k : ℕ) → k < length ps → (q : Place) → q ≡ decoder_ended body (slice_index_or ps k d) → q ≡ decoder_ended body (place_at k ps)
ended_read body ps d k h q e = subst (λ (p : Place). q ≡ decoder_ended body p) (place_read ps k d h) e

-- ---- all places, as the code has fed them one by one
abbrev FedPairs : Tables → ℕ → List ℕ → ℕ → List Place → List Place → Type 0
FedPairs t body xs k [] [] = Unit {0}
FedPairs t body xs k [] (q ∷ qs) = ⊥
FedPairs t body xs k (p ∷ ps) [] = ⊥
FedPairs t body xs k (p ∷ ps) (q ∷ qs) = ((q ≡ fed_as k (own_of t k) body xs p) × KnownFed k (own_of t k) xs p) × FedPairs t body xs (suc k) ps qs

fed_pairs : (t : Tables) (body : ℕ) (xs : List ℕ) (k : ℕ) (ps qs : List Place) → FedPairs t body xs k ps qs → (qs ≡ fed_each_from t body xs k ps) × EachFrom (λ (j : ℕ) (p : Place). KnownFed j (own_of t j) xs p) k ps
unfolding fed_each_from
fed_pairs t body xs k [] [] f = (refl, tt)
fed_pairs t body xs k [] (q ∷ qs) f = absurd f
fed_pairs t body xs k (p ∷ ps) [] f = absurd f
fed_pairs t body xs k (p ∷ ps) (q ∷ qs) f = let r = fed_pairs t body xs (suc k) ps qs f.1 in (joined f.0.0 r.0, (f.0.1, r.1))

abbrev EndPairs : Tables → ℕ → ℕ → List Place → List Place → Type 0
EndPairs t body k [] [] = Unit {0}
EndPairs t body k [] (q ∷ qs) = ⊥
EndPairs t body k (p ∷ ps) [] = ⊥
EndPairs t body k (p ∷ ps) (q ∷ qs) = ((q ≡ ended_as k (own_of t k) body p) × KnownEnd k (own_of t k) p) × EndPairs t body (suc k) ps qs

end_pairs : (t : Tables) (body k : ℕ) (ps qs : List Place) → EndPairs t body k ps qs → (qs ≡ ended_each_from t body k ps) × EachFrom (λ (j : ℕ) (p : Place). KnownEnd j (own_of t j) p) k ps
unfolding ended_each_from
end_pairs t body k [] [] f = (refl, tt)
end_pairs t body k [] (q ∷ qs) f = absurd f
end_pairs t body k (p ∷ ps) [] f = absurd f
end_pairs t body k (p ∷ ps) (q ∷ qs) f = let r = end_pairs t body (suc k) ps qs f.1 in (joined f.0.0 r.0, (f.0.1, r.1))

module _ (t : Tables) (body : ℕ) (ps : List Place) (d : Place) (e : length ps ≡ place_count) where
  pub fed_listed : (xs : List ℕ) (qs : List Place) → FedPairs t body xs 0 (listed ps d) qs → (qs ≡ fed_each t body xs ps) × AllKnown t xs ps
  fed_listed xs qs f = subst (λ (l : List Place). (qs ≡ fed_each t body xs l) × AllKnown t xs l) (sym (is_listed ps d e)) (fed_pairs t body xs 0 (listed ps d) qs f)

  pub end_listed : (qs : List Place) → EndPairs t body 0 (listed ps d) qs → (qs ≡ ended_each t body ps) × EndKnown t ps
  end_listed qs f = subst (λ (l : List Place). (qs ≡ ended_each t body l) × EndKnown t l) (sym (is_listed ps d e)) (end_pairs t body 0 (listed ps d) qs f)

-- the bytes of the head, and then a part
pub fed_twice : (t : Tables) (body : ℕ) (ps : List Place) (d : Place) → length ps ≡ place_count → (xs ys : List ℕ) (qs rs : List Place) → FedPairs t 0 xs 0 (listed ps d) qs → FedPairs t body ys 0 qs rs → (rs ≡ fed_each t body ys (fed_each t 0 xs ps)) × (AllKnown t xs ps × AllKnown t ys (fed_each t 0 xs ps))
fed_twice t body ps d e xs ys qs rs f g =
    let a = fed_listed t 0 ps d e xs qs f in
    let b : (rs ≡ fed_each t body ys (fed_each t 0 xs ps)) × AllKnown t ys (fed_each t 0 xs ps) = subst (λ (l : List Place). (rs ≡ fed_each t body ys l) × AllKnown t ys l) a.0 (fed_pairs t body ys 0 qs rs g) in
    (b.0, (a.1, b.1))

-- ---- the last part or not
module _ (t : Tables) (last : Bool) (body : ℕ) (xs : List ℕ) (ps : List Place) where
  pub slate_last : last ≡ true → (r : List Place) → r ≡ ended_each t body (fed_each t body xs ps) → AllKnown t xs ps → EndKnown t (fed_each t body xs ps) → (r ≡ slate_fed t last body xs ps) × SlateKnown t last body xs ps
  slate_last l r e f g = rw l (e, (f, g))

  pub slate_open : last ≡ false → (r : List Place) → r ≡ fed_each t body xs ps → AllKnown t xs ps → (r ≡ slate_fed t last body xs ps) × SlateKnown t last body xs ps
  slate_open l r e f = rw l (e, f)
