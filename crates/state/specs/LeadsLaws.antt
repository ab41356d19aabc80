-- The leader leads, and nothing else does. What the walk over the places finds has the greatest score, and stands first among those
-- that have it. Assumes nothing.
use Rattle.std.specs.Prelude.{◌≡◌, refl, Bool, true, false, cond, List, [], ◌∷◌, ◌++◌, ℕ, suc, ◌+◌, ◌<◌, ◌≤◌, ltb, ℤ, pos, negsuc, length, get_or, Ok, Err}
use Rattle.std.proofs.Common.{sym, ap, subst, ◌∙◌, append-nil, append_assoc, not-suc-le-zero, arith, length-append, lt-ltb, le-ltb, ltb-true, ltb-false}
use Rattle.std.proofs.Math.ListN.{get_or-append}
use Rattle.std.proofs.lemmas.List.{get_or_at}
use Rattle.std.specs.Int.Signed.{lt_z}
use Rattle.places.specs.declared.place.Place.{Place}
use Rattle.places.specs.Slate.{nowhere}
use Rattle.state.specs.Hebrew.{named_of}
use Rattle.state.specs.HebrewLaws.{named_is, named_only}
use Rattle.state.specs.State.{triggered}
use Rattle.state.specs.Leader.{Best, against_best, better_of, best_from, leader_as, leader_of}
use Rattle.state.specs.Leads.{AtMost, Below, EachBelow, Greatest, Dropped, Scoreless, Leads, LeaderFor}
use Rattle.std.specs.declared.option.Option.TheVariants as best
use Rattle.state.specs.declared.leader.Leader.{Leader}
use Rattle.state.specs.declared.leader.Leader.TheVariants.{Ascii, None, Place as At}
use Rattle.state.specs.declared.State.{State}
use Rattle.places.specs.Score.{Score}

abbrev IsBest : List Place → Best → Type 0
IsBest ps best.None = Scoreless ps
IsBest ps (best.Some (k, n)) = Greatest ps k n

-- ---- the order of scores
irreflexive : (n : ℤ) → lt_z n n ≡ false
irreflexive (pos n) = le-ltb n n (omega arith)
irreflexive (negsuc n) = le-ltb n n (omega arith)

asymmetric : (x n : ℤ) → lt_z x n ≡ true → lt_z n x ≡ false
asymmetric (pos x) (pos n) e = le-ltb n x (omega (arith, ltb-true x n e))
asymmetric (pos x) (negsuc n) e = refl_of e
  where
    refl_of : false ≡ true → true ≡ false
    refl_of q = sym q
asymmetric (negsuc x) (pos n) e = refl
asymmetric (negsuc x) (negsuc n) e = le-ltb x n (omega (arith, ltb-true n x e))

-- no greater than n, and n less than m
through : (x n m : ℤ) → lt_z n x ≡ false → lt_z n m ≡ true → lt_z x m ≡ true
through (pos x) (pos n) (pos m) p q = lt-ltb x m (omega (arith, ltb-false n x p, ltb-true n m q))
through (pos x) (pos n) (negsuc m) p q = q
through (pos x) (negsuc n) m p q = absurd_from (sym p)
  where
    absurd_from : false ≡ true → lt_z (pos x) m ≡ true
    absurd_from e = absurd (let z : ◌≡◌ {A = ℕ} 0 1 = cc in omega arith)
through (negsuc x) n (pos m) p q = refl
through (negsuc x) (pos n) (negsuc m) p q = absurd (let z : ◌≡◌ {A = ℕ} 0 1 = cc in omega arith)
through (negsuc x) (negsuc n) (negsuc m) p q = lt-ltb m x (omega (arith, ltb-false x n p, ltb-true m n q))

most_below : (n m : ℤ) (s : Score) → lt_z n m ≡ true → AtMost n s → Below m s
most_below n m (Err why) h a = tt
most_below n m (Ok x) h a = through x n m a h

below_most : (m : ℤ) (s : Score) → Below m s → AtMost m s
below_most m (Err why) b = tt
below_most m (Ok x) b = asymmetric x m b

-- ---- one place more
module _ (ps : List Place) (p : Place) where
  abbrev more : List Place
  more = ps ++ (p ∷ [])

  length_more : length more ≡ length ps + 1
  length_more = length-append ps (p ∷ [])

  old : (j : ℕ) (d : Place) → j < length ps → get_or more j d ≡ get_or ps j d
  old j d h = get_or-append ps (p ∷ []) d j h

  new : (d : Place) → get_or more (length ps) d ≡ p
  new d = get_or_at ps p [] d (length ps) refl

  each_old : (P : Score → Type 0) (k : ℕ) → k ≤ length ps → EachBelow P k ps → EachBelow P k more
  each_old P k l f j d h = subst (λ (x : Place). P x.score) (sym (old j d (omega arith))) (f j d h)

  each_more : (P : Score → Type 0) → EachBelow P (length ps) ps → P p.score → EachBelow P (length more) more
  each_more P f g j d h = pick (ltb j (length ps)) refl
    where
      pick : (t : Bool) → ltb j (length ps) ≡ t → P (get_or (ps ++ (p ∷ [])) j d).score
      pick true e = each_old P (length ps) (omega arith) f j d (ltb-true j (length ps) e)
      pick false e =
          let q : length ps ≡ j = omega (arith, h, length_more, ltb-false j (length ps) e) in
          subst (λ (i : ℕ). P (get_or (ps ++ (p ∷ [])) i d).score) q (subst (λ (x : Place). P x.score) (sym (new d)) g)

  each_to : (P Q : Score → Type 0) (k : ℕ) → ((s : Score) → P s → Q s) → EachBelow P k ps → EachBelow Q k ps
  each_to P Q k f g j d h = f (get_or ps j d).score (g j d h)

  -- the new place leads, where it has a score that is greater than what was known
  leads_new : (n : ℤ) → p.score ≡ Ok n → EachBelow (Below n) (length ps) ps → Greatest more (length ps) n
  leads_new n e f =
      record {
        within = omega (arith, length_more);
        there = λ (d : Place). ap (λ (x : Place). x.score) (new d) ∙ e;
        greatest = each_more (AtMost n) (each_to (Below n) (AtMost n) (length ps) (below_most n) f) (subst (AtMost n) (sym e) (irreflexive n));
        lowest = each_old (Below n) (length ps) (omega arith) f;
      }

  -- the old one stays, where the new one has none or no greater one
  leads_old : (k : ℕ) (n : ℤ) → Greatest ps k n → AtMost n p.score → Greatest more k n
  leads_old k n l a =
      record {
        within = omega (arith, length_more, l.within);
        there = λ (d : Place). ap (λ (x : Place). x.score) (old k d l.within) ∙ l.there d;
        greatest = each_more (AtMost n) l.greatest a;
        lowest = each_old (Below n) k (omega (arith, l.within)) l.lowest;
      }

  dropped_below : (n : ℤ) (s : Score) → Dropped s → Below n s
  dropped_below n (Err why) h = tt
  dropped_below n (Ok m) h = absurd h

  against : (b : Best) (n : ℤ) → p.score ≡ Ok n → IsBest ps b → IsBest more (against_best b (length ps) n)
  against best.None n e i = leads_new n e (each_to Dropped (Below n) (length ps) (dropped_below n) i)
  against (best.Some (k, m)) n e i = pick (lt_z m n) refl
    where
      pick : (t : Bool) → lt_z m n ≡ t → IsBest (ps ++ (p ∷ [])) (cond t (best.Some ((length ps), n)) (best.Some (k, m)))
      pick true q = leads_new n e (each_to (AtMost m) (Below n) (length ps) (λ (s : Score) (a : AtMost m s). most_below m n s q a) i.greatest)
      pick false q = leads_old k m i (subst (AtMost m) (sym e) q)

  kept : (b : Best) → Dropped p.score → IsBest ps b → IsBest more b
  kept best.None h i = each_more Dropped i h
  kept (best.Some (k, n)) h i = leads_old k n i (below_most n p.score (dropped_below n p.score h))

  better_is : (b : Best) (s : Score) → p.score ≡ s → IsBest ps b → IsBest more (better_of b (length ps) s)
  unfolding better_of
  better_is b (Err why) e i = kept b (subst Dropped (sym e) tt) i
  better_is b (Ok n) e i = against b n e i

-- ---- all places
best_is : (ps qs : List Place) (b : Best) → IsBest ps b → IsBest (ps ++ qs) (best_from b (length ps) qs)
unfolding best_from
best_is ps [] b i = subst (λ (l : List Place). IsBest l b) (sym (append-nil ps)) i
best_is ps (q ∷ qs) b i =
    let e : length (ps ++ (q ∷ [])) ≡ suc (length ps) = omega (arith, length-append ps (q ∷ [])) in
    let r = best_is (ps ++ (q ∷ [])) qs (better_of b (length ps) q.score) (better_is ps q b q.score refl i) in
    rw (append_assoc ps (q ∷ []) qs, e) at r

best_of_all : (ps : List Place) → IsBest ps (best_from best.None 0 ps)
best_of_all ps = best_is [] ps best.None (λ (j : ℕ) (d : Place) h. absurd (not-suc-le-zero h))

led_as : (s : State) (b : Best) → triggered s.front ≡ true → IsBest s.places b → LeaderFor s (leader_as s.places b)
led_as s best.None e i = (e, i)
led_as s (best.Some (k, n)) e i = (e, record { at = k; most = n; greatest = i; named = named_is s.places k })

-- The greatest score leads, the lowest place on ties, or its rival in Hebrew; none where no place has a score; ascii before any
-- trigger.
pub leader_leads : (s : State) → LeaderFor s (leader_of s)
unfolding leader_of
leader_leads s = pick (triggered s.front) refl
  where
    pick : (t : Bool) → triggered s.front ≡ t → LeaderFor s (cond t (leader_as s.places (best_from best.None 0 s.places)) Ascii)
    pick true e = led_as s (best_from best.None 0 s.places) e (best_of_all s.places)
    pick false e = e

-- ---- and nothing else leads
-- a place before one that has the greatest score has a lesser one, so that it has not the greatest
before : (ps : List Place) (j k : ℕ) (m n : ℤ) → Greatest ps j m → Greatest ps k n → j < k → ⊥
before ps j k m n a b h = clash (subst (Below n) (a.there d) (b.lowest j d h)) (subst (AtMost m) (b.there d) (a.greatest k d b.within))
  where
    d : Place
    d = nowhere

    clash : lt_z m n ≡ true → lt_z m n ≡ false → ⊥
    clash p q = let z : ◌≡◌ {A = ℕ} 0 1 = cc in omega arith

one_greatest : (ps : List Place) (j k : ℕ) (m n : ℤ) → Greatest ps j m → Greatest ps k n → j ≡ k
one_greatest ps j k m n a b = pick (ltb j k) (ltb k j) refl refl
  where
    pick : (t u : Bool) → ltb j k ≡ t → ltb k j ≡ u → j ≡ k
    pick true u e f = absurd (before ps j k m n a b (ltb-true j k e))
    pick false true e f = absurd (before ps k j n m b a (ltb-true k j f))
    pick false false e f = omega (arith, ltb-false j k e, ltb-false k j f)

one_leads : (ps : List Place) (j k : ℕ) → Leads ps j → Leads ps k → j ≡ k
one_leads ps j k a b =
    let e = one_greatest ps a.at b.at a.most b.most a.greatest b.greatest in
    named_only ps a.at j a.named ∙ (ap (named_of ps) e ∙ sym (named_only ps b.at k b.named))

-- the place that has the greatest score has one
not_scoreless : (ps : List Place) (k : ℕ) → Scoreless ps → Leads ps k → ⊥
not_scoreless ps k f l = subst Dropped (l.greatest.there nowhere) (f l.at nowhere l.greatest.within)

met_not : {A : Type 0} (s : State) → triggered s.front ≡ true → triggered s.front ≡ false → A
met_not s p q = absurd (let z : ◌≡◌ {A = ℕ} 0 1 = cc in omega arith)

-- What is said of the leader without a walk holds of one leader only.
pub one_leader : (s : State) (l m : Leader) → LeaderFor s l → LeaderFor s m → l ≡ m
one_leader s Ascii Ascii a b = refl
one_leader s Ascii None a b = met_not s b.0 a
one_leader s Ascii (At k) a b = met_not s b.0 a
one_leader s None Ascii a b = met_not s a.0 b
one_leader s None None a b = refl
one_leader s None (At k) a b = absurd (not_scoreless s.places k a.1 b.1)
one_leader s (At j) Ascii a b = met_not s a.0 b
one_leader s (At j) None a b = absurd (not_scoreless s.places j b.1 a.1)
one_leader s (At j) (At k) a b = ap At (one_leads s.places j k a.1 b.1)
