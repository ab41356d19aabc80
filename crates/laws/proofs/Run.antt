-- What follows from a run from none being none: a loop's turn that drops out, and where a run that lives ends.
use Rattle.std.specs.Prelude.{◌≡◌, refl, List, [], ◌∷◌, ℕ, ◌+◌, ◌<◌, ℤ, length, get_or, drop}
use Rattle.std.proofs.Common.{sym, ap, ◌∙◌, arith}
use Rattle.laws.specs.Run.{Out, none, live, plus, takes, with_byte, run, ends_at, run_none, run_at, ends_none, ends_turn}

module _ {D S : Type 0} (step : S → ℕ → Out D S) where
  -- ---- for a loop: one turn at i
  module _ (m : S) (s : ℤ) (xs : List ℕ) (i : ℕ) (h : i < length xs) where
    pub turn_none : (d : D) → step m (get_or xs i 0) ≡ none d → none d ≡ run step (live m s) (drop i xs)
    unfolding plus
    turn_none d e = sym (run_at step m s xs i h ∙ ap (λ (o : Out D S). run step (plus s o) (drop (i + 1) xs)) e ∙ run_none step d (drop (i + 1) xs))

    pub ends_turn_none : (d : D) → step m (get_or xs i 0) ≡ none d → ends_at step (live m s) (drop i xs) ≡ 1
    unfolding plus
    ends_turn_none d e =
        ends_turn step m s xs i h ∙ (ap (λ (o : Out D S). 1 + ends_at step (plus s o) (drop (i + 1) xs)) e ∙ ap (λ (k : ℕ). 1 + k) (ends_none step d (drop (i + 1) xs)))

  live_takes : (o : Out D S) (xs : List ℕ) (n : S) (t : ℤ) → run step o xs ≡ live n t → takes o ≡ 1
  unfolding takes
  live_takes (none d) xs n t e = let q : none d ≡ live n t = sym (run_none step d xs) ∙ e in let z : ◌≡◌ {A = ℕ} 0 1 = cc in omega arith
  live_takes (live m s) xs n t e = refl

  -- what lives takes all
  pub ends_live : (o : Out D S) (xs : List ℕ) (n : S) (t : ℤ) → run step o xs ≡ live n t → ends_at step o xs ≡ length xs
  unfolding ends_at run
  ends_live o [] n t e = refl
  ends_live o (x ∷ xs) n t e = omega (arith, live_takes o (x ∷ xs) n t e, ends_live (with_byte step o x) xs n t e)
