-- Sums of signed numbers as the code has them: each number was put into 64 bits and read back.
use Rattle.std.specs.Prelude.{◌≡◌, refl, true, false, ℕ, suc, ◌+◌, ◌^◌, ◌≤◌, ◌<◌, ℤ, pos, negsuc, nat_abs, ◌+ℤ◌, leb}
use Rattle.std.proofs.Common.{sym, arith, ltb-true, SFits, to_z, of_z}
use Rattle.std.proofs.Math.Dec.{leb-suc-suc}
use Rattle.std.specs.Int.Signed.{mag, le_z, lt_z}
use Rattle.std.specs.Int.{w64}
use Rattle.laws.specs.Sizes.{abs_add, fits64, thru, thru64}

-- a number as a local holds it
abbrev pub kept : ℤ → ℤ
kept z = to_z w64 (of_z w64 z)

-- what a call gave, or what a struct or an enum holds, is read back as it is
pub read : (z : ℤ) → mag z < 2 ^ 63 → kept z ≡ z
read z h = thru w64 z (record { sfits = h })

module _ (a b : ℤ) (n m : ℕ) (p : nat_abs a ≤ n) (q : nat_abs b ≤ m) (room : n + m < 2 ^ 63) where
  pub sum_small : nat_abs (a +ℤ b) ≤ n + m
  sum_small = omega (arith, abs_add a b)

  -- the sum fits
  pub sum_fits : SFits w64 (kept a +ℤ kept b)
  sum_fits = rw (thru64 a n p (omega arith), thru64 b m q (omega arith)) (fits64 (a +ℤ b) (omega (arith, sum_small)))

  -- and is the sum
  pub sum_read : kept (kept a +ℤ kept b) ≡ a +ℤ b
  sum_read = rw (thru64 a n p (omega arith), thru64 b m q (omega arith)) (thru64 (a +ℤ b) (n + m) sum_small room)

-- ---- a size, by the two tests that the code makes of a number below 0 and of another
pub size_neg : (z : ℤ) (n : ℕ) → lt_z z (pos 0) ≡ true → le_z (negsuc n) z ≡ leb (nat_abs z) (suc n)
size_neg (pos a) n e = absurd (omega (arith, ltb-true a 0 e))
size_neg (negsuc a) n e = sym (leb-suc-suc a n)

pub size_pos : (z : ℤ) (n : ℕ) → lt_z z (pos 0) ≡ false → le_z z (pos n) ≡ leb (nat_abs z) n
size_pos (pos a) n e = refl
size_pos (negsuc a) n e = cc

-- ---- three terms, and four
module _ (a b c : ℤ) (n m k : ℕ) (p : nat_abs a ≤ n) (q : nat_abs b ≤ m) (r : nat_abs c ≤ k) (room : n + m + k < 2 ^ 63) where
  pub sum3_small : nat_abs (a +ℤ b +ℤ c) ≤ n + m + k
  sum3_small = omega (arith, abs_add (a +ℤ b) c, abs_add a b)

  pub sum3_fits : SFits w64 (kept (kept a +ℤ kept b) +ℤ kept c)
  sum3_fits = rw (sum_read a b n m p q (omega arith), thru64 c k r (omega arith)) (fits64 (a +ℤ b +ℤ c) (omega (arith, sum3_small)))

  pub sum3_read : kept (kept (kept a +ℤ kept b) +ℤ kept c) ≡ a +ℤ b +ℤ c
  sum3_read = rw (sum_read a b n m p q (omega arith), thru64 c k r (omega arith)) (thru64 (a +ℤ b +ℤ c) (n + m + k) sum3_small room)

  module _ (d : ℤ) (l : ℕ) (s : nat_abs d ≤ l) (room4 : n + m + k + l < 2 ^ 63) where
    pub sum4_small : nat_abs (a +ℤ b +ℤ c +ℤ d) ≤ n + m + k + l
    sum4_small = omega (arith, abs_add (a +ℤ b +ℤ c) d, sum3_small)

    pub sum4_fits : SFits w64 (kept (kept (kept a +ℤ kept b) +ℤ kept c) +ℤ kept d)
    sum4_fits = rw (sum3_read, thru64 d l s (omega arith)) (fits64 (a +ℤ b +ℤ c +ℤ d) (omega (arith, sum4_small)))

    pub sum4_read : kept (kept (kept (kept a +ℤ kept b) +ℤ kept c) +ℤ kept d) ≡ a +ℤ b +ℤ c +ℤ d
    sum4_read = rw (sum3_read, thru64 d l s (omega arith)) (thru64 (a +ℤ b +ℤ c +ℤ d) (n + m + k + l) sum4_small room4)
