-- Tables read in a loop, entry by entry.
use Rattle.std.specs.Prelude.{◌≡◌, ℕ, suc, ◌+◌, ◌-◌, ◌≤◌, ◌<◌, length, get_or, take, drop, set}
use Rattle.std.proofs.Math.Path.{refl}
use Rattle.std.proofs.Common.{ap, ◌∙◌, add-zero, add-one, arith, take-append-drop, length-drop, drop_of_length-le, drop-cons, take-suc-set, drop-set-lt, get_or-drop, drop-drop, lt-ltb, le-ltb}
use mathlib.Core.List.{List, [], ◌∷◌, ◌++◌, append-nil}
use Rattle.std.proofs.Math.Seq.{take_all, append_snoc}
use Rattle.reader.specs.Fill.{fill, octet_at}

module _ {A : Type 0} (k : ℕ) (f : List ℕ → A) where
  -- the entries before i are done, and the bytes before `at` are read
  abbrev pub so_far : List ℕ → ℕ → List A → ℕ → List A
  so_far xs at ts i = take i ts ++ fill k f (drop at xs) (drop i ts)

  none_left : (xs : List ℕ) (ts : List A) → length xs < k → fill k f xs ts ≡ ts
  unfolding fill
  none_left xs [] h = refl
  none_left xs (t ∷ ts) h = rw (lt-ltb (length xs) k h)

  one_more : (xs : List ℕ) (t : A) (ts : List A) → k ≤ length xs → fill k f xs (t ∷ ts) ≡ f xs ∷ fill k f (drop k xs) ts
  unfolding fill
  one_more xs t ts h = rw (le-ltb (length xs) k h)

  module _ (xs : List ℕ) (at : ℕ) (ts : List A) (i : ℕ) where
    pub fill_turn : (v : A) → i < length ts → k ≤ length xs - at → v ≡ f (drop at xs) → so_far xs (at + k) (set ts i v) (i + 1) ≡ so_far xs at ts i
    fill_turn v h m e =
        let n : k ≤ length (drop at xs) = rw length-drop m in
        let b : i < suc i = omega arith in
        rw (add-one, take-suc-set ts i v h, drop-set-lt (suc i) ts i v b, drop-cons ts i v h, one_more (drop at xs) (get_or ts i v) (drop (suc i) ts) n, drop-drop, e, append_snoc)

    pub fill_short : length xs - at < k → so_far xs at ts i ≡ ts
    fill_short m =
        let n : length (drop at xs) < k = rw length-drop m in
        rw (none_left (drop at xs) (drop i ts) n, take-append-drop)

    pub fill_done : length ts ≤ i → so_far xs at ts i ≡ ts
    unfolding fill
    fill_done h = rw (drop_of_length-le ts {i = i} h, append-nil, take_all i ts h)

-- ---- an entry's byte in place
module _ (xs : List ℕ) (at : ℕ) where
  first : get_or (drop at xs) 0 0 ≡ get_or xs at 0
  first = get_or-drop at xs 0 0 ∙ ap (λ (n : ℕ). get_or xs n 0) (add-zero at)

  pub octet_at_lem : get_or xs at 0 ≡ octet_at (drop at xs)
  octet_at_lem = rw first
