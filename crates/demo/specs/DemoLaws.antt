-- A table filled in a loop, entry by entry; the demonstration data has the exact lengths.
use Rattle.std.specs.Prelude.{◌≡◌, refl, pos, length, take, set, replicate}
use Rattle.std.proofs.Common.{ap, ◌∙◌, add-one, length-set}
use mathlib.Core.List.{List, ◌++◌, append-nil}
use Prim.Native.Nat.{ℕ, zero, suc, ◌+◌, ◌-◌, ◌≤◌, ◌<◌}
use native.Mathlib.Omega.{arith}
use Rattle.std.proofs.lemmas.List.{length-replicate}
use Rattle.std.proofs.Math.Seq.{take_all, append_snoc, take-suc-set}
use Rattle.lengths.specs.Lengths.{class_count, mark_count, pair_count, extra_count, weight_count}
use Rattle.tables.specs.Tables.{Sized}
use Rattle.demo.specs.Demo.{tabled, class_of, classes, marks, pairs, unmapped, extras, weights, demonstration}

module _ (f : ℕ → ℕ) (n : ℕ) where
  -- the entries before i are done
  abbrev pub so_far : List ℕ → ℕ → List ℕ
  so_far ts i = take i ts ++ tabled f i (n - i)

  module _ (ts : List ℕ) (i : ℕ) where
    pub tabled_turn : (v : ℕ) → length ts ≡ n → i < n → v ≡ f i → so_far (set ts i v) (i + 1) ≡ so_far ts i
    unfolding tabled
    tabled_turn v l h e =
        let m : n - i ≡ suc (n - suc i) = omega arith in
        rw (add-one, take-suc-set ts i v (omega arith), m, e, append_snoc)

    pub tabled_done : length ts ≡ n → n ≤ i → so_far ts i ≡ ts
    unfolding tabled
    tabled_done l h =
        let m : n - i ≡ 0 = omega arith in
        rw (m, append-nil, take_all i ts (omega arith))

-- ---- lengths
tabled_length : (f : ℕ → ℕ) (k n : ℕ) → length (tabled f k n) ≡ n
unfolding tabled
tabled_length f k zero = refl
tabled_length f k (suc n) = ap suc (tabled_length f (suc k) n)

classes_length : length classes ≡ class_count
unfolding classes
classes_length = tabled_length class_of 0 class_count

marks_length : length marks ≡ mark_count
unfolding marks
marks_length = length-set {A = ℕ} (replicate mark_count 0) 2 1 ∙ length-replicate {A = ℕ} mark_count 0

pairs_length : length pairs ≡ pair_count
unfolding pairs
pairs_length = length-set (replicate pair_count (pos 0)) 258 (pos 10) ∙ length-replicate pair_count (pos 0)

unmapped_length : (n : ℕ) → length (unmapped n) ≡ n
unmapped_length n = length-replicate {A = ℕ} n 0

extras_length : length extras ≡ extra_count
unfolding extras
extras_length = length-replicate extra_count (pos 0)

weights_length : length weights ≡ weight_count
unfolding weights
weights_length = refl

pub demonstration_sized : Sized demonstration
demonstration_sized = record { exact = rw (classes_length, marks_length, pairs_length, unmapped_length 19782, unmapped_length 23940, unmapped_length 11280, extras_length, weights_length) }
