-- The sum of two numbers in 64 bits of two's complement, and that it is the sum where that fits.
use Rattle.std.specs.Prelude.{◌≡◌, ℕ, suc, ◌+◌, ◌-◌, ◌%◌, ◌^◌, ◌<◌, ◌≤◌, Bool, true, false, cond, ℤ, pos, negsuc, ◌+ℤ◌, nat_lt, unsigned_abs, refl}
use Rattle.std.proofs.Common.{arith, ltb-true, ltb-false, to_z, of_z}
use Rattle.std.proofs.Math.IntN.{sub_ℕ}
use Rattle.std.specs.Int.{w64}
use Rattle.laws.specs.Sizes.{abs_add, thru64}

unfoldable pub sum_of : ℤ → ℤ → ℤ
sum_of a b = to_z w64 ((of_z w64 a + of_z w64 b) % 2 ^ 64)

-- a natural number and the bits of a negative one, by which of them is greater
bits_pick : (t : Bool) (a b : ℕ) → nat_lt a b ≡ t → a + b < 2 ^ 63 → (a + (2 ^ 64 - b)) % 2 ^ 64 ≡ of_z w64 (cond t (negsuc (b - suc a)) (pos (a - b)))
bits_pick true a b e h = let l : a < b = ltb-true a b e in omega arith
bits_pick false a b e h = let l : b ≤ a = ltb-false a b e in omega arith

bits_subℕ : (a b : ℕ) → a + b < 2 ^ 63 → (a + (2 ^ 64 - b)) % 2 ^ 64 ≡ of_z w64 (sub_ℕ a b)
bits_subℕ a b h = bits_pick (nat_lt a b) a b refl h

-- the bits of a sum that fits are the sum of the bits
bits_sum : (a b : ℤ) → unsigned_abs a + unsigned_abs b < 2 ^ 63 → (of_z w64 a + of_z w64 b) % 2 ^ 64 ≡ of_z w64 (a +ℤ b)
bits_sum (pos a) (pos b) h = omega arith
bits_sum (pos a) (negsuc b) h = bits_subℕ a (suc b) h
bits_sum (negsuc a) (pos b) h = omega (arith, bits_subℕ b (suc a) (omega arith))
bits_sum (negsuc a) (negsuc b) h = omega arith

pub sum_fits : (a b : ℤ) → unsigned_abs a + unsigned_abs b < 2 ^ 63 → sum_of a b ≡ a +ℤ b
unfolding sum_of
sum_fits a b h = rw (bits_sum a b h) (thru64 (a +ℤ b) (unsigned_abs a + unsigned_abs b) (abs_add a b) h)
