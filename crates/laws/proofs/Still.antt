-- Machines whose step never changes the score: from any score as from 0, a first byte that drops out, and what begins a stretch
-- that lives.
use Rattle.std.specs.Prelude.{◌≡◌, refl, List, ◌∷◌, ◌++◌, ℕ, ℤ, pos}
use Rattle.std.proofs.Common.{sym, ◌∙◌}
use Rattle.std.proofs.Math.Path.{ap}
use Rattle.std.proofs.Math.IntN.{+ℤ_idr}
use Rattle.laws.specs.Run.{Out, none, live, plus, with_byte, run, run_append, run_none, run_plus}
use Rattle.laws.specs.Still.{Lives}

module _ {D S : Type 0} (step : S → ℕ → Out D S) where
  -- ---- from any score as from 0
  pub from_zero : (m : S) (s : ℤ) (xs : List ℕ) → run step (live m s) xs ≡ plus s (run step (live m (pos 0)) xs)
  unfolding plus
  from_zero m s xs = ap (λ (z : ℤ). run step (live m z) xs) (sym (+ℤ_idr s)) ∙ run_plus step s (live m (pos 0)) xs

  pub lives : (m n : S) (s : ℤ) (xs : List ℕ) → run step (live m (pos 0)) xs ≡ live n (pos 0) → run step (live m s) xs ≡ live n s
  unfolding plus
  lives m n s xs e = from_zero m s xs ∙ (ap (plus s) e ∙ ap (live n) (+ℤ_idr s))

  pub drops : (m : S) (d : D) (s : ℤ) (xs : List ℕ) → run step (live m (pos 0)) xs ≡ none d → run step (live m s) xs ≡ none d
  unfolding plus
  drops m d s xs e = from_zero m s xs ∙ ap (plus s) e

  -- ---- the first byte of a run that is from the score 0
  pub run_drops : (m : S) (d : D) (b : ℕ) (bs : List ℕ) → step m b ≡ none d → run step (live m (pos 0)) (b ∷ bs) ≡ none d
  unfolding run with_byte plus
  run_drops m d b bs e = rw e (run_none step d bs)

  -- ---- what begins a stretch that lives, lives
  begun : (o : Out D S) (ys : List ℕ) → Lives (run step o ys) → Lives o
  begun (none d) ys l = let e : none d ≡ live l.0 l.1.0 = sym (run_none step d ys) ∙ l.1.1 in (l.0, (l.1.0, e))
  begun (live m s) ys l = (m, (s, refl))

  pub lives_begun : (o : Out D S) (xs ys : List ℕ) → Lives (run step o (xs ++ ys)) → Lives (run step o xs)
  lives_begun o xs ys l = begun (run step o xs) ys (rw (run_append step o xs ys) at l)
