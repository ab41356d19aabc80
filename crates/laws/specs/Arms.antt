-- What an arm of a `match` on a number answers, by one test that the checker computes: f is v at each of the arm's keys,
-- or at each number of the arm's range but the keys of the other arms.
use Rattle.std.specs.Prelude.{◌≡◌, refl, Bool, true, false, ◌&&◌, ◌||◌, List, [], ◌∷◌, ℕ, ◌+◌, ◌<◌, ◌≤◌, T}
use Rattle.std.proofs.Common.{sym, ap, ◌∙◌, inl, inr}
use Rattle.std.specs.Bool.{beq}
use mir.Val.{has_key}
use types.Run.{OneOf, hit}
use Rattle.laws.specs.Table.{and_left, and_right, every, nothing, within}

same : (a b : Bool) → T (beq a b) → a ≡ b
same true true t = refl
same true false t = absurd t
same false true t = absurd t
same false false t = refl

other : (a b : Bool) → T (a || b) → (T a → ⊥) → T b
other true b t h = absurd (h tt)
other false b t h = t

module _ (f : ℕ → Bool) (v : Bool) where
  -- f is v at k
  abbrev pub is_at : ℕ → Bool
  is_at k = beq v (f k)

  -- at each of the keys
  abbrev pub is_at_all : List ℕ → Bool
  is_at_all [] = true
  is_at_all (k ∷ ks) = is_at k && is_at_all ks

  key : (k x : ℕ) → T (is_at k) → x ≡ k → v ≡ f x
  key k x t e = same v (f k) t ∙ ap f (sym e)

  -- the arm of the keys ks
  pub at_keys : (ks : List ℕ) → T (is_at_all ks) → (x : ℕ) → OneOf ks x → v ≡ f x
  at_keys [] t x o = absurd o
  at_keys (k ∷ []) t x e = key k x (and_left (is_at k) true t) e
  at_keys (k ∷ l ∷ ks) t x (inl e) = key k x (and_left (is_at k) (is_at_all (l ∷ ks)) t) e
  at_keys (k ∷ l ∷ ks) t x (inr o) = at_keys (l ∷ ks) (and_right (is_at k) (is_at_all (l ∷ ks)) t) x o

  -- the arm of the n numbers from i on, where the other arms have the keys ks
  pub in_range : (ks : List ℕ) (i n : ℕ) → T (every (λ (k : ℕ) (u : Unit {0}). has_key ks k || is_at k) i (nothing n)) → (x : ℕ) → i ≤ x → x < i + n → (OneOf ks x → ⊥) → v ≡ f x
  in_range ks i n t x p q o = same v (f x) (other (has_key ks x) (is_at x) (within (λ (k : ℕ). has_key ks k || is_at k) i n t x p q) (λ h. o (hit ks x h)))

  -- the same where two other arms have the keys ks and ls
  pub in_range_of_two : (ks ls : List ℕ) (i n : ℕ) → T (every (λ (k : ℕ) (u : Unit {0}). has_key ks k || (has_key ls k || is_at k)) i (nothing n)) → (x : ℕ) → i ≤ x → x < i + n → (OneOf ks x → ⊥) → (OneOf ls x → ⊥) → v ≡ f x
  in_range_of_two ks ls i n t x p q o r =
      same v (f x)
      (other (has_key ls x) (is_at x) (other (has_key ks x) (has_key ls x || is_at x) (within (λ (k : ℕ). has_key ks k || (has_key ls k || is_at k)) i n t x p q) (λ h. o (hit ks x h))) (λ h. r (hit ls x h)))
