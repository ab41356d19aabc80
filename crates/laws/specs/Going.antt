-- The loop of a run, said once for every machine: what holds at its head after i bytes, and what a turn and the end make of it.
use Rattle.std.specs.Prelude.{◌≡◌, refl, List, ℕ, ◌+◌, ◌*◌, ◌^◌, ◌<◌, ◌≤◌, ℤ, pos, nat_abs, ◌+ℤ◌, length, get_or, drop}
use Rattle.std.proofs.Common.{sym, ap, ◌∙◌, add-zero, mul-le-mul_left, arith, length-drop, SFits, to_z, of_z}
use Rattle.std.specs.Int.{w64}
use Rattle.laws.specs.Run.{Out, live, alive, run, ends_at, run_done, turn_live, ends_turn_live}
use Rattle.laws.specs.Sizes.{abs_add, fits64, thru, thru64}

-- P n is what holds of a record after n bytes, and a byte changes the score by at most g: after i bytes of xs, from a record of
-- which P n holds, the record is m and the score changed by s
pub record Going {D S : Type 0} (step : S → ℕ → Out D S) (P : ℕ → S → Type 0) (g n : ℕ) (start : S) (xs : List ℕ) (i : ℕ) (m : S) (s : ℤ) : Type 0 where
  pub within : i ≤ length xs
  pub sound : P (n + i) m
  pub small : nat_abs s ≤ g * i
  pub rest : run step (live m s) (drop i xs) ≡ run step (alive start) xs
  pub ends : i + ends_at step (live m s) (drop i xs) ≡ ends_at step (alive start) xs

module _ {D S : Type 0} {step : S → ℕ → Out D S} {P : ℕ → S → Type 0} {g n : ℕ} {start : S} {xs : List ℕ} where
  pub going_start : P n start → Going step P g n start xs 0 start (pos 0)
  going_start p = record { within = omega arith; sound = rw add-zero p; small = omega arith; rest = refl; ends = omega arith }

  module _ {i : ℕ} {m : S} {s : ℤ} (going : Going step P g n start xs i m s) where
    module _ (h : length xs ≤ i) where
      pub going_done : live m s ≡ run step (alive start) xs
      going_done = sym (run_done step (live m s) (drop i xs) (rw length-drop (omega arith))) ∙ going.rest

      pub going_small : nat_abs s ≤ g * length xs
      going_small = let e : i ≡ length xs = omega (arith, going.within) in rw e at going.small

    module _ (h : i < length xs) where
      module _ {next : S} {k : ℤ} (gave : step m (get_or xs i 0) ≡ live next k) (least : nat_abs k ≤ g) where
        sum_small : nat_abs (s +ℤ k) ≤ g * (i + 1)
        sum_small = omega (arith, abs_add s k, going.small)

        pub going_turn : P (n + i + 1) next → Going step P g n start xs (i + 1) next (s +ℤ k)
        going_turn p =
            let q : n + i + 1 ≡ n + (i + 1) = omega arith in
            record { within = omega arith; sound = rw q at p; small = sum_small; rest = turn_live step m s xs i h next k gave ∙ going.rest; ends = omega (arith, ends_turn_live step m s xs i h next k gave, going.ends) }

        -- the code's own sum of 64 bits fits as long as the bound over the whole of xs does
        module _ {most : ℕ} (short : length xs ≤ most) (room : g * most < 2 ^ 63) where
          read_gain : to_z w64 (of_z w64 k) ≡ k
          read_gain =
              let p : g * 1 ≤ g * most = mul-le-mul_left g (omega arith) in
              thru64 k (g * 1) (omega arith) (omega arith)

          pub going_fits : SFits w64 (s +ℤ to_z w64 (of_z w64 k))
          going_fits =
              let p : g * (i + 1) ≤ g * most = mul-le-mul_left g (omega arith) in
              rw read_gain (fits64 (s +ℤ k) (omega (arith, sum_small)))

          pub going_next : P (n + i + 1) next → Going step P g n start xs (i + 1) next (to_z w64 (of_z w64 (s +ℤ to_z w64 (of_z w64 k))))
          going_next p = rw (thru w64 (s +ℤ to_z w64 (of_z w64 k)) going_fits, read_gain) (going_turn p)

-- a machine whose step changes no score
pub going_still : {D S : Type 0} {step : S → ℕ → Out D S} {P : ℕ → S → Type 0} {n : ℕ} {start : S} {xs : List ℕ} {i : ℕ} {m : S} → Going step P 0 n start xs i m (pos 0) → i < length xs → {next : S} {k : ℤ} → step m (get_or xs i 0) ≡ live next k → P (n + i + 1) next × (k ≡ pos 0) → Going step P 0 n start xs (i + 1) next (pos 0)
going_still going h {next} e p = going_turn going h (e ∙ ap (live next) p.1) (omega arith) p.0
