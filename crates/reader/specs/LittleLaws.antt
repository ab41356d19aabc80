-- Two, four and eight bytes.
use Rattle.std.specs.Prelude.{◌≡◌, refl, List, [], ◌∷◌, ℕ, zero, suc, ◌+◌, ◌*◌, ◌≤◌, ◌<◌, length, slice_index, get_or, take, drop}
use Rattle.std.specs.Int.{w16, w32, w64, from_le_bytes}
use Rattle.std.proofs.Common.{add-one, arith, get_or-drop}
use Rattle.std.proofs.Math.ListN.{get_or-eq_default}
use Rattle.std.proofs.Math.Seq.{take-nil}
use Rattle.reader.specs.Little.{little, little_at}

-- the byte at i, then those after it
one_more : (k i : ℕ) (ys : List ℕ) → little (take (suc k) (drop i ys)) ≡ get_or ys i 0 + 256 * little (take k (drop (suc i) ys))
unfolding little
one_more k zero [] = rw (take-nil k)
one_more k zero (y ∷ ys) = refl
one_more k (suc i) [] = rw (take-nil k)
one_more k (suc i) (y ∷ ys) = one_more k i ys

pub pair_are : (ys : List ℕ) (i : ℕ) → get_or ys i 0 + 256 * get_or ys (i + 1) 0 ≡ little_at 2 ys i
unfolding little
pair_are ys i = rw add-one (omega (arith, one_more 1 i ys, one_more 0 (suc i) ys))

module _ (ys : List ℕ) where
  pub four_are : little_at 2 ys 0 + 65536 * little_at 2 ys 2 ≡ little_at 4 ys 0
  unfolding little
  four_are = omega (arith, one_more 3 0 ys, one_more 2 1 ys, one_more 1 2 ys, one_more 0 3 ys, one_more 1 0 ys, one_more 0 1 ys)

  pub eight_are : little_at 4 ys 0 + 4294967296 * (little_at 2 ys 4 + 65536 * little_at 2 ys 6) ≡ little_at 8 ys 0
  unfolding little
  eight_are =
      omega (arith, one_more 7 0 ys, one_more 6 1 ys, one_more 5 2 ys, one_more 4 3 ys, one_more 3 4 ys, one_more 2 5 ys, one_more 1 6 ys, one_more 0 7 ys, one_more 3 0 ys, one_more 2 1 ys, one_more 1 2 ys, one_more 0 3 ys, one_more 1 4 ys, one_more 0 5 ys)

-- ---- the byte k after a place
module _ (xs : List ℕ) (at k : ℕ) where
  pub byte_there : get_or xs (at + k) 0 ≡ get_or (drop at xs) k 0
  byte_there = rw get_or-drop

  pub byte_past : length xs ≤ at + k → 0 ≡ get_or (drop at xs) k 0
  byte_past h = rw (get_or-drop, get_or-eq_default xs 0 {n = at + k} h)

-- ---- the number that the library reads from bytes that are those of the others, place by place
module _ (bs xs : List ℕ) where
  pub two_read : ((k : ℕ) → k < 2 → slice_index bs k ≡ slice_index xs k) → from_le_bytes w16 bs ≡ little_at 2 xs 0
  two_read same = omega (arith, same 0 (omega arith), same 1 (omega arith), pair_are xs 0)

  pub four_read : ((k : ℕ) → k < 4 → slice_index bs k ≡ slice_index xs k) → from_le_bytes w32 bs ≡ little_at 4 xs 0
  four_read same =
      omega (arith, same 0 (omega arith), same 1 (omega arith), same 2 (omega arith), same 3 (omega arith), pair_are xs 0, pair_are xs 2, four_are xs)

  pub eight_read : ((k : ℕ) → k < 8 → slice_index bs k ≡ slice_index xs k) → from_le_bytes w64 bs ≡ little_at 8 xs 0
  eight_read same =
      omega (arith, same 0 (omega arith), same 1 (omega arith), same 2 (omega arith), same 3 (omega arith), same 4 (omega arith), same 5 (omega arith), same 6 (omega arith), same 7 (omega arith), pair_are xs 0, pair_are xs 2, pair_are xs 4, pair_are xs 6, four_are xs, eight_are xs)
