-- Lists whose elements are tested one by one, each at its place.
use Rattle.std.specs.Prelude.{◌≡◌, Bool, true, false, ◌&&◌, length, get_or}
use Rattle.std.proofs.Math.Path.{refl}
use Rattle.std.proofs.Math.Bool.{and-false}
use mathlib.Core.List.{List, [], ◌∷◌}
use Prim.Native.Nat.{ℕ, zero, suc, ◌+◌, ◌<◌}
use Rattle.std.proofs.Common.{le_of_suc-le-suc, not-suc-le-zero}
use Rattle.std.proofs.Math.Nat.{add-zero}
use native.Mathlib.Omega.{arith}
use Rattle.laws.specs.Tests.{both}

-- ---- each element passes the test of its place, the first one that of k
module _ {A : Type 0} (test : ℕ → A → Bool) where
  unfoldable pub each_b : ℕ → List A → Bool
  each_b k [] = true
  each_b k (x ∷ xs) = test k x && each_b (suc k) xs

  -- one that does not pass
  pub each_lacks : (k : ℕ) (xs : List A) (d : A) (i : ℕ) → i < length xs → test (k + i) (get_or xs i d) ≡ false → each_b k xs ≡ false
  unfolding each_b
  each_lacks k [] d i h e = absurd (not-suc-le-zero h)
  each_lacks k (x ∷ xs) d zero h e = rw (rw add-zero at e)
  each_lacks k (x ∷ xs) d (suc i) h e =
      let q : k + suc i ≡ suc k + i = omega arith in
      rw (each_lacks (suc k) xs d i (le_of_suc-le-suc h) (rw q at e)) (and-false (test k x))

-- P of each element at its place, the first one's place being k
abbrev pub EachFrom : {A : Type 0} → (ℕ → A → Type 0) → ℕ → List A → Type 0
EachFrom P k [] = Unit {0}
EachFrom P k (x ∷ xs) = P k x × EachFrom P (suc k) xs

-- the test decides, in both directions, where it does so at each place
module _ {A : Type 0} (test : ℕ → A → Bool) (P : ℕ → A → Type 0) where
  pub each_true : ((k : ℕ) (x : A) → test k x ≡ true → P k x) → (k : ℕ) (xs : List A) → each_b test k xs ≡ true → EachFrom P k xs
  unfolding each_b
  each_true f k [] e = tt
  each_true f k (x ∷ xs) e = let h = both (test k x) (each_b test (suc k) xs) e in (f k x h.0, each_true f (suc k) xs h.1)

  pub true_each : ((k : ℕ) (x : A) → P k x → test k x ≡ true) → (k : ℕ) (xs : List A) → EachFrom P k xs → each_b test k xs ≡ true
  unfolding each_b
  true_each f k [] e = refl
  true_each f k (x ∷ xs) e = rw (f k x e.0, true_each f (suc k) xs e.1)

-- from one of P to one of Q
pub each_weaken : {A : Type 0} (P Q : ℕ → A → Type 0) → ((k : ℕ) (x : A) → P k x → Q k x) → (k : ℕ) (xs : List A) → EachFrom P k xs → EachFrom Q k xs
each_weaken P Q f k [] e = tt
each_weaken P Q f k (x ∷ xs) e = (f k x e.0, each_weaken P Q f (suc k) xs e.1)

pub each_get : {A : Type 0} (P : ℕ → A → Type 0) (k : ℕ) (xs : List A) (d : A) → EachFrom P k xs → (i : ℕ) → i < length xs → P (k + i) (get_or xs i d)
each_get P k [] d e i h = absurd (not-suc-le-zero h)
each_get P k (x ∷ xs) d e zero h = rw add-zero e.0
each_get P k (x ∷ xs) d e (suc i) h =
    let q : suc k + i ≡ k + suc i = omega arith in
    rw q at (each_get P (suc k) xs d e.1 i (le_of_suc-le-suc h))
