-- Machines whose step never changes the score: validators. What a run of one keeps, and where it can end.
use Rattle.std.specs.Prelude.{◌≡◌, refl, List, ◌∷◌, ℕ, ℤ, pos}
use Rattle.std.proofs.Common.{sym, ◌∙◌, arith}
use Rattle.std.proofs.Math.Path.{ap}
use Rattle.std.proofs.Math.IntN.{+ℤ_idr}
use Rattle.laws.specs.Run.{WhenLive, when_more, run_when, Out, none, live, plus, with_byte, run, ends_at, ends_plus, ended}

abbrev pub Lives : {D S : Type 0} → Out D S → Type 0
Lives {S} o = (m : S) × ((s : ℤ) × (o ≡ live m s))

-- dropped out, or live with the score s and a record of which P holds
abbrev pub Ends : {D S : Type 0} → (S → Type 0) → ℤ → Out D S → Type 0
Ends P s o = WhenLive (λ m t. P m × (t ≡ s)) o

module _ {D S : Type 0} (step : S → ℕ → Out D S) where
  -- ---- a step that keeps P and changes no score: so does a run
  pub run_ends : (P : S → Type 0) → ((m : S) (b : ℕ) → P m → Ends P (pos 0) (step m b)) → (s : ℤ) (o : Out D S) (xs : List ℕ) → Ends P s o → Ends P s (run step o xs)
  run_ends P keeps s o xs h =
      run_when step (λ i m t. P m × (t ≡ s)) (λ i m t b q. when_more (λ n g r. (r.0, rw (q.1, r.1, +ℤ_idr))) (step m b) (keeps m b q.0)) 0 o xs h

  -- ---- from any score as from 0
  pub ends_from_zero : (m : S) (s : ℤ) (xs : List ℕ) → ends_at step (live m s) xs ≡ ends_at step (live m (pos 0)) xs
  unfolding plus
  ends_from_zero m s xs = ap (λ (z : ℤ). ends_at step (live m z) xs) (sym (+ℤ_idr s)) ∙ ends_plus step s (live m (pos 0)) xs

  -- ---- the first byte of a run that is from the score 0
  pub run_first : (m n : S) (b : ℕ) (bs : List ℕ) → step m b ≡ live n (pos 0) → run step (live m (pos 0)) (b ∷ bs) ≡ run step (live n (pos 0)) bs
  unfolding run with_byte plus
  run_first m n b bs e = rw e

-- ---- the end of the stream
module _ {D S : Type 0} where
  pub none_live : {d : D} {m : S} {s : ℤ} → none d ≡ live m s → ⊥
  none_live e = let z : ◌≡◌ {A = ℕ} 0 1 = cc in omega arith

  -- what lives with a score that is larger by k, lives
  pub plus_live : (k : ℤ) (o : Out D S) (m : S) (s : ℤ) → plus k o ≡ live m s → (t : ℤ) × (o ≡ live m t)
  unfolding plus
  plus_live k (none d) m s e = (s, e)
  plus_live k (live n t) m s e = let q : n ≡ m = cc in (t, ap (λ (x : S). live x t) q)

  -- what lives at the end, lived before it
  pub ended_live : (close : S → Out D S) (o : Out D S) → Lives (ended close o) → (m : S) × ((s : ℤ) × ((o ≡ live m s) × Lives (close m)))
  unfolding ended
  ended_live close (none d) l = absurd (none_live l.1.1)
  ended_live close (live m s) l = (m, (s, (refl, (l.0, plus_live s (close m) l.0 l.1.0 l.1.1))))
