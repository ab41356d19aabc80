-- Negative numbers taken apart, -(z + 1), and put together, -k - 1: neither leaves 64 bits, where -z may.
use Rattle.std.specs.Prelude.{◌≡◌, ℕ, zero, suc, ◌+◌, ◌-◌, ◌^◌, ◌<◌, ◌≤◌, true, false, T, ℤ, pos, negsuc, ◌+ℤ◌, ◌-ℤ◌, neg_ℤ, FitsSigned, int_lt, unsigned_abs, refl}
use Rattle.std.proofs.Common.{ap, ◌∙◌, arith, ltb-true, le-ltb, to_z-of_z}
use Rattle.std.proofs.Math.IntN.{+ℤ_idl, +ℤ_one, -ℤ_one}
use Rattle.std.specs.Int.Signed.{mag, non_neg}
use Rattle.std.specs.Int.{Width, w64}
use mir.Val.{bits, hbits, to_z, of_z}
use Rattle.std.proofs.Math.Facts.{to_z_pos}

-- ---- -k - 1, at any width
mag_neg : (k : ℕ) → mag (neg_ℤ (pos k)) ≤ k
mag_neg zero = omega arith
mag_neg (suc n) = omega arith

less : (k : ℕ) → neg_ℤ (pos k) -ℤ pos 1 ≡ negsuc k
less zero = refl
less (suc n) = -ℤ_one (negsuc n)

module _ (w : Width) (k : ℕ) (h : k < 2 ^ hbits w) where
  neg_is : pos 0 -ℤ to_z w k ≡ neg_ℤ (pos k)
  neg_is = ap (λ (z : ℤ). pos 0 -ℤ z) (to_z_pos w h) ∙ +ℤ_idl (neg_ℤ (pos k))

  pub neg_fits : FitsSigned w (pos 0 -ℤ to_z w k)
  neg_fits = rw neg_is (record { sfits = omega (arith, mag_neg k) })

  less_is : to_z w (of_z w (pos 0 -ℤ to_z w k)) -ℤ pos 1 ≡ negsuc k
  less_is = ap (λ (z : ℤ). z -ℤ pos 1) (to_z-of_z neg_fits ∙ neg_is) ∙ less k

  pub less_fits : FitsSigned w (to_z w (of_z w (pos 0 -ℤ to_z w k)) -ℤ pos 1)
  less_fits = rw less_is (record { sfits = h })

  -- these are the bits n
  pub less_read : (n : ℕ) → 2 ^ hbits w ≤ n → k ≡ 2 ^ bits w - suc n → to_z w (of_z w (to_z w (of_z w (pos 0 -ℤ to_z w k)) -ℤ pos 1)) ≡ to_z w n
  less_read n p e = to_z-of_z less_fits ∙ (less_is ∙ (ap negsuc e ∙ rw (le-ltb n (2 ^ hbits w) p)))

-- ---- -(z + 1), of 64 bits
flip : (a : ℕ) → pos 0 -ℤ (negsuc a +ℤ pos 1) ≡ pos a
flip zero = refl
flip (suc n) = ap (λ (z : ℤ). pos 0 -ℤ z) (+ℤ_one (negsuc (suc n))) ∙ +ℤ_idl (pos (suc n))

next_mag : (a : ℕ) → a < 2 ^ 63 → mag (negsuc a +ℤ pos 1) < 2 ^ 63
next_mag zero h = omega arith
next_mag (suc n) h = rw (+ℤ_one (negsuc (suc n))) (omega (arith, h))

flip_mag : (z : ℤ) → int_lt z (pos 0) ≡ true → pos 0 -ℤ (z +ℤ pos 1) ≡ pos (mag z)
flip_mag (pos a) e = absurd (omega (arith, ltb-true a 0 e))
flip_mag (negsuc a) e = flip a

module _ (z : ℤ) (f : FitsSigned w64 z) (e : int_lt z (pos 0) ≡ true) where
  pub next_fits : FitsSigned w64 (z +ℤ pos 1)
  next_fits = next_fits_at z f e
    where
      next_fits_at : (z : ℤ) → FitsSigned w64 z → int_lt z (pos 0) ≡ true → FitsSigned w64 (z +ℤ pos 1)
      next_fits_at (pos a) f e = absurd (omega (arith, ltb-true a 0 e))
      next_fits_at (negsuc a) f e = record { sfits = next_mag a f.sfits }

  pub flip_is : pos 0 -ℤ to_z w64 (of_z w64 (to_z w64 (of_z w64 z) +ℤ pos 1)) ≡ pos (mag z)
  flip_is = rw (to_z-of_z {w = w64} {z = z} f, to_z-of_z {w = w64} {z = z +ℤ pos 1} next_fits) (flip_mag z e)

  pub flip_read : to_z w64 (of_z w64 (pos 0 -ℤ to_z w64 (of_z w64 (to_z w64 (of_z w64 z) +ℤ pos 1)))) ≡ pos (mag z)
  flip_read = rw flip_is (to_z-of_z {w = w64} {z = pos (mag z)} (record { sfits = f.sfits }))

pub negative_size : (z : ℤ) → int_lt z (pos 0) ≡ true → mag z + 1 ≡ unsigned_abs z
negative_size (pos a) e = absurd (omega (arith, ltb-true a 0 e))
negative_size (negsuc a) e = omega arith

pub negative_bits : (z : ℤ) → int_lt z (pos 0) ≡ true → 2 ^ 64 - 1 - mag z ≡ of_z w64 z
negative_bits (pos a) e = absurd (omega (arith, ltb-true a 0 e))
negative_bits (negsuc a) e = omega arith

pub not_negative : (z : ℤ) → int_lt z (pos 0) ≡ false → T (non_neg z)
not_negative (pos a) e = tt
not_negative (negsuc a) e = absurd (let q : ◌≡◌ {A = ℕ} 0 1 = cc in omega arith)

pub plain_bits : (z : ℤ) → int_lt z (pos 0) ≡ false → unsigned_abs z ≡ of_z w64 z
plain_bits (pos a) e = refl
plain_bits (negsuc a) e = cc
