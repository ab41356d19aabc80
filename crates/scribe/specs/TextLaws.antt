-- The fewest digits that hold a number are its text; the sign.
use Rattle.std.proofs.Math.Path.{◌≡◌}
use Rattle.std.specs.Prelude.{true, false, ◌∷◌, ℕ, zero, suc, ◌-◌, ◌/◌, ◌%◌, ◌^◌, ◌≤◌, ◌<◌, ℤ, pos, negsuc, nat_abs}
use Rattle.std.proofs.Common.{subst, arith}
use Rattle.std.proofs.Math.Nat.{pow-succ', pow-le-pow_right}
use Rattle.std.specs.Int.Signed.{lt_z}
use borrow.Author.Tests.{lt-ltb, le-ltb, ltb-true}
use Rattle.io.specs.Digits.{last_digits, IsDigitCount}
use Rattle.scribe.specs.Text.{decimal_in, decimal_of, signed_of}

some : (m : ℕ) → 1 ≤ 10 ^ m
some zero = omega arith
some (suc m) = omega (arith, pow-succ' 10 m, some m)

module _ (n m : ℕ) (low : 10 ^ suc m ≤ n) (high : n < 10 ^ suc (suc m)) where
  ten : 10 ≤ n
  ten = omega (arith, pow-succ' 10 m, some m)

  tenth : IsDigitCount 10 1 (n / 10) (suc m)
  tenth =
      let s : suc m - 1 ≡ m = omega arith in
      (omega arith, omega (arith, pow-succ' 10 (suc m)), λ h. rw s (omega (arith, pow-succ' 10 m)))

digits_are : (k r n : ℕ) → r ≤ k → IsDigitCount 10 1 n r → last_digits 10 r n ≡ decimal_in k n
unfolding decimal_in
digits_are k zero n h f = absurd (omega (arith, f.0))
digits_are zero (suc r) n h f = absurd (omega arith)
digits_are (suc k) (suc zero) n h f =
    let l : n < 10 = f.1 in
    let e : n % 10 ≡ n = omega arith in
    rw (e, lt-ltb n 10 l)
digits_are (suc k) (suc (suc m)) n h f =
    let s : suc (suc m) - 1 ≡ suc m = omega arith in
    let low : 10 ^ suc m ≤ n = subst (λ (e : ℕ). 10 ^ e ≤ n) s (f.2 (omega arith)) in
    rw (le-ltb n 10 (ten n m low f.1), digits_are k (suc m) (n / 10) (omega arith) (tenth n m low f.1))

-- what is not above is at most
by_order : (a b : ℕ) → (b < a → ⊥) → a ≤ b
by_order a b h = omega arith

few : (r n : ℕ) → n < 2 ^ 64 → IsDigitCount 10 1 n r → r ≤ 20
few r n small f = by_order r 20 (λ h. omega (arith, pow-le-pow_right {n = 10} (omega arith) {i = 20} {j = r - 1} (omega arith), f.2 (omega arith)))

pub decimal_is : (r n : ℕ) → n < 2 ^ 64 → IsDigitCount 10 1 n r → last_digits 10 r n ≡ decimal_of n
unfolding decimal_of
decimal_is r n small f = digits_are 20 r n (few r n small f) f

-- ---- the sign
module _ (n : ℕ) where
  pub below_zero : (z : ℤ) → lt_z z (pos 0) ≡ true → n ≡ nat_abs z → 45 ∷ decimal_of n ≡ signed_of z
  unfolding signed_of
  below_zero (pos k) h e = absurd (omega (arith, ltb-true k 0 h))
  below_zero (negsuc k) h e = rw e

  pub from_zero : (z : ℤ) → lt_z z (pos 0) ≡ false → n ≡ nat_abs z → decimal_of n ≡ signed_of z
  unfolding signed_of
  from_zero (pos k) h e = rw e
  from_zero (negsuc k) h e = absurd (let q : ◌≡◌ {A = ℕ} 0 1 = cc in omega arith)
