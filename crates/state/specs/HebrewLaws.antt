-- Between the two orders of Hebrew: the definition names the place that is said without tests, and no other is. The places that the
-- code reads. Assumes nothing.
use Rattle.std.specs.Prelude.{◌≡◌, Bool, true, false, ◌&&◌, ◌||◌, List, ◌⊎◌, ℕ, eqb, ltb, length, get_or, Ok, Err}
use Rattle.std.proofs.Math.Path.{refl}
use Rattle.std.proofs.Common.{inl, inr, arith, lt-ltb, le-ltb, ltb-true, ltb-false, eqb-true}
use Rattle.laws.specs.Tests.{both, either}
use Rattle.tables.specs.Own.{place_count}
use Rattle.places.specs.declared.place.Place.{Place}
use Rattle.places.specs.Slate.{place_at}
use Rattle.places.specs.SlateLaws.{place_read}
use Rattle.state.specs.Hebrew.{logical, visual, has_score, plausible_punctuation, is_hebrew, contested, punctuated, named_from, named_of}
use Rattle.state.specs.Leads.{Dropped, Contested, counted, Punctuated, Named}
use Rattle.places.specs.Score.{Score}

-- ---- the two ways through the code
module _ (ps : List Place) (k : ℕ) (d e : Place) (long : length ps ≡ place_count) where
  read_logical : get_or ps logical d ≡ place_at logical ps
  read_logical = place_read ps logical d (rw long (omega arith))

  read_visual : get_or ps visual e ≡ place_at visual ps
  read_visual = place_read ps visual e (rw long (omega arith))

  pub named_settled : contested (get_or ps logical d) (get_or ps visual e) k ≡ true → punctuated (get_or ps logical d) (get_or ps visual e) ≡ named_of ps k
  unfolding named_from
  named_settled h = rw (← read_logical, ← read_visual, h)

  pub named_kept : contested (get_or ps logical d) (get_or ps visual e) k ≡ false → k ≡ named_of ps k
  unfolding named_from
  named_kept h = rw (← read_logical, ← read_visual, h)

-- ---- the tests, and what they say
clash : {A : Type 0} {t : Bool} → t ≡ true → t ≡ false → A
clash p q = absurd (let z : ◌≡◌ {A = ℕ} 0 1 = cc in omega arith)

score_said : (s : Score) → has_score s ≡ true → Dropped s → ⊥
score_said (Err why) e h = clash e refl
score_said (Ok n) e h = h

score_told : (s : Score) → (Dropped s → ⊥) → has_score s ≡ true
score_told (Err why) f = absurd (f tt)
score_told (Ok n) f = refl

hebrew_said : (j : ℕ) → is_hebrew j ≡ true → (j ≡ logical) ⊎ (j ≡ visual)
hebrew_said j = pick (eqb j logical) refl
  where
    pick : (t : Bool) → eqb j logical ≡ t → (t || eqb j visual) ≡ true → (j ≡ logical) ⊎ (j ≡ visual)
    pick true e f = inl (eqb-true j logical e)
    pick false e f = inr (eqb-true j visual f)

hebrew_told : (j : ℕ) → (j ≡ logical) ⊎ (j ≡ visual) → is_hebrew j ≡ true
hebrew_told j (inl e) = rw e
hebrew_told j (inr e) = rw e

module _ (ps : List Place) where
  abbrev l : Place
  l = place_at logical ps

  abbrev v : Place
  v = place_at visual ps

  contested_said : (j : ℕ) → contested l v j ≡ true → Contested ps j
  contested_said j e =
      let a = both (is_hebrew j) (has_score l.score && has_score v.score) e in
      let b = both (has_score l.score) (has_score v.score) a.1 in
      record { hebrew = hebrew_said j a.0; logical_live = score_said l.score b.0; visual_live = score_said v.score b.1 }

  contested_told : (j : ℕ) → Contested ps j → contested l v j ≡ true
  contested_told j c = rw (hebrew_told j c.hebrew, score_told l.score c.logical_live, score_told v.score c.visual_live)

  punctuated_said : Punctuated ps (punctuated l v)
  punctuated_said =
      either (Punctuated ps) (ltb (plausible_punctuation l.machine) (plausible_punctuation v.machine))
      (λ e. inr (refl, ltb-true (counted ps logical) (counted ps visual) e))
      (λ e. inl (refl, ltb-false (counted ps logical) (counted ps visual) e))

  punctuated_only : (k : ℕ) → Punctuated ps k → k ≡ punctuated l v
  punctuated_only k (inl h) = rw (le-ltb (counted ps logical) (counted ps visual) h.1, h.0)
  punctuated_only k (inr h) = rw (lt-ltb (counted ps logical) (counted ps visual) h.1, h.0)

  pub named_is : (j : ℕ) → Named ps j (named_of ps j)
  unfolding named_from
  named_is j =
      either (Named ps j) (contested l v j)
      (λ e. record { settled = λ c. punctuated_said; kept = λ f. absurd (f (contested_said j e)) })
      (λ e. record { settled = λ c. clash (contested_told j c) e; kept = λ f. refl })

  pub named_only : (j k : ℕ) → Named ps j k → k ≡ named_of ps j
  unfolding named_from
  named_only j k n =
      either (λ (i : ℕ). k ≡ i) (contested l v j)
      (λ e. punctuated_only k (n.settled (contested_said j e)))
      (λ e. n.kept (λ c. clash (contested_told j c) e))
