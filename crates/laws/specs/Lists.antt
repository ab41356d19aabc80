-- Lists, and parts of them: whether some element passes a test, how many do, the last few, what stands from a place on.
use Rattle.std.specs.Prelude.{◌≡◌, Bool, cond, ◌||◌, eqb, get_or, take}
use Rattle.std.specs.List.{fold, list_any, sum_by, count_by}
use Rattle.std.specs.Simd.{first_chunks}
use Rattle.std.proofs.Math.Path.{refl, sym, ap}
use Rattle.std.proofs.Common.{◌∙◌, not-suc-le-zero, add-one, take-append-drop, drop-cons, take_all, drop-drop}
use Rattle.std.proofs.Math.Bool.{true, false, or_assoc, or-false}
use mathlib.Core.List.{List, [], ◌∷◌, ◌++◌}
use Prim.Native.Nat.{ℕ, zero, suc, ◌+◌, ◌-◌, ◌*◌, ◌<◌, ◌≤◌}
use native.Mathlib.Omega.{arith}
use Rattle.std.proofs.Math.ListN.{length, drop, length-append, length-drop}
use Rattle.laws.specs.Tests.{neither}
use Rattle.std.proofs.lemmas.List.{drop-append-le}
use Rattle.std.proofs.lemmas.List.Sums.{sum_by-cons}
use Rattle.std.proofs.Math.Seq.{drop-append-add}

module _ {A : Type 0} where
  -- some element passes the test
  unfoldable pub any : (A → Bool) → List A → Bool
  any p [] = false
  any p (x ∷ xs) = p x || any p xs

  -- how many elements pass the test
  unfoldable pub count : (A → Bool) → List A → ℕ
  count p [] = 0
  count p (x ∷ xs) = cond (p x) 1 0 + count p xs

  -- the last k elements, or fewer where there are not so many
  unfoldable pub last : ℕ → List A → List A
  last k xs = drop (length xs - k) xs

-- the number is in the set
abbrev pub is_in : List ℕ → ℕ → Bool
is_in set n = any (eqb n) set

one_most : (t : Bool) → cond t 1 0 ≤ 1
one_most true = omega arith
one_most false = omega arith

module _ {A : Type 0} where
  -- ---- for a loop: at its end, and one turn at i, where the element passes or not
  module _ (p : A → Bool) (d : A) (xs : List A) (i : ℕ) (h : i < length xs) where
    pub any_hit : p (get_or xs i d) ≡ true → true ≡ any p (drop i xs)
    unfolding any
    any_hit e = rw (drop-cons xs i d h, e)

    pub any_miss : p (get_or xs i d) ≡ false → any p (drop (i + 1) xs) ≡ any p (drop i xs)
    unfolding any
    any_miss e = rw (drop-cons xs i d h, e, add-one)

    -- what is found so far (t), with what the element says (r), or is still to find, is w all along
    pub any_turn : (t r : Bool) {w : Bool} → r ≡ p (get_or xs i d) → (t || any p (drop i xs)) ≡ w → ((t || r) || any p (drop (i + 1) xs)) ≡ w
    unfolding any
    any_turn t r e q = rw (or_assoc, e, add-one) (rw (drop-cons xs i d h) at q)

    pub count_hit : p (get_or xs i d) ≡ true → 1 + count p (drop (i + 1) xs) ≡ count p (drop i xs)
    unfolding count
    count_hit e = rw (drop-cons xs i d h, e, add-one)

    pub count_miss : p (get_or xs i d) ≡ false → count p (drop (i + 1) xs) ≡ count p (drop i xs)
    unfolding count
    count_miss e = rw (drop-cons xs i d h, e, add-one) (omega arith)

  pub any_done : (p : A → Bool) (xs : List A) → length xs ≤ 0 → any p xs ≡ false
  unfolding any
  any_done p [] h = refl
  any_done p (x ∷ xs) h = absurd (not-suc-le-zero h)

  pub count_done : (p : A → Bool) (xs : List A) → length xs ≤ 0 → count p xs ≡ 0
  unfolding count
  count_done p [] h = refl
  count_done p (x ∷ xs) h = absurd (not-suc-le-zero h)

  -- ---- some of a part
  pub any_append : (p : A → Bool) (xs ys : List A) → any p (xs ++ ys) ≡ (any p xs || any p ys)
  unfolding any
  any_append p [] ys = refl
  any_append p (x ∷ xs) ys = or_more (p x) (any p (xs ++ ys)) (any p xs) (any p ys) (any_append p xs ys)
    where
      or_more : (t u v w : Bool) → u ≡ (v || w) → (t || u) ≡ ((t || v) || w)
      or_more true u v w e = refl
      or_more false u v w e = e

  -- what std's `any` answers
  pub list_any_is : (p : A → Bool) (xs : List A) → list_any p xs ≡ any p xs
  unfolding any
  list_any_is p [] = refl
  list_any_is p (x ∷ xs) = ap (λ (b : Bool). p x || b) (list_any_is p xs)

  -- what a fold that asks every element answers
  pub fold_or_is : (p : A → Bool) (t : Bool) (xs : List A) → fold (λ t x. t || p x) t xs ≡ (t || any p xs)
  unfolding any
  fold_or_is p t [] = sym (or-false t)
  fold_or_is p t (x ∷ xs) = fold_or_is p (t || p x) xs ∙ or_assoc t (p x) (any p xs)

  pub any_drop : (p : A → Bool) (n : ℕ) (xs : List A) → any p xs ≡ false → any p (drop n xs) ≡ false
  unfolding any
  any_drop p zero xs e = e
  any_drop p (suc n) [] e = refl
  any_drop p (suc n) (x ∷ xs) e = any_drop p n xs (neither (p x) (any p xs) e).1

  -- ---- counting
  pub count_some : (p : A → Bool) (i : ℕ) (xs : List A) (d : A) → i < length xs → p (get_or xs i d) ≡ true → 1 ≤ count p xs
  unfolding count
  count_some p i [] d h e = absurd (not-suc-le-zero h)
  count_some p zero (x ∷ xs) d h e = rw e (omega arith)
  count_some p (suc i) (x ∷ xs) d h e = omega (arith, count_some p i xs d (omega (arith, h)) e)

  pub count_most : (p : A → Bool) (xs : List A) → count p xs ≤ length xs
  unfolding count
  count_most p [] = omega arith
  count_most p (x ∷ xs) = omega (arith, one_most (p x), count_most p xs)

  pub count_append : (p : A → Bool) (xs ys : List A) → count p (xs ++ ys) ≡ count p xs + count p ys
  unfolding count
  count_append p [] ys = omega arith
  count_append p (x ∷ xs) ys = omega (arith, count_append p xs ys)

  -- what std's `count_by` counts
  pub count_by_is : (p : A → Bool) (xs : List A) → count_by p xs ≡ count p xs
  unfolding count
  count_by_is p [] = refl
  count_by_is p (x ∷ xs) = sum_by-cons (λ x. cond (p x) 1 0) x xs ∙ ap (λ (n : ℕ). cond (p x) 1 0 + n) (count_by_is p xs)

  -- a list counted by blocks of n, and what is left
  pub count_blocks : (p : A → Bool) (n k : ℕ) (xs : List A) → sum_by (count p) (first_chunks n k xs) + count p (drop (k * n) xs) ≡ count p xs
  count_blocks p n zero xs = let e : 0 * n ≡ 0 = omega arith in rw e (omega arith)
  count_blocks p n (suc k) xs =
      let e : n + k * n ≡ suc k * n = omega arith in
      let rest : drop (k * n) (drop n xs) ≡ drop (suc k * n) xs = drop-drop (k * n) n xs ∙ ap (λ (m : ℕ). drop m xs) e in
      let parts : count p (take n xs) + count p (drop n xs) ≡ count p xs = sym (count_append p (take n xs) (drop n xs)) ∙ ap (count p) (take-append-drop n xs) in
      omega (arith, sum_by-cons (count p) (take n xs) (first_chunks n k (drop n xs)), count_blocks p n k (drop n xs), ap (count p) rest, parts)

  -- ---- the last k
  pub last_short : (k : ℕ) (xs : List A) → length xs ≤ k → last k xs ≡ xs
  unfolding last
  last_short k xs h = let e : length xs - k ≡ 0 = omega arith in rw e

  pub last_length : (k : ℕ) (xs : List A) → length (last k xs) ≤ k
  unfolding last
  last_length k xs = rw length-drop (omega arith)

  -- of a list in two parts, the second of which has k
  pub last_append : (k : ℕ) (xs ys : List A) → k ≤ length ys → last k (xs ++ ys) ≡ last k ys
  unfolding last
  last_append k xs ys h =
      let e : length (xs ++ ys) - k ≡ length xs + (length ys - k) = rw length-append (omega arith) in
      ap (λ (n : ℕ). drop n (xs ++ ys)) e ∙ drop-append-add xs ys (length ys - k)

  -- what was cut off before does not matter
  pub last_last : (k : ℕ) (xs ys : List A) → last k (last k xs ++ ys) ≡ last k (xs ++ ys)
  unfolding last
  last_last k xs ys =
      let n = length xs - k in
      let e : n + (length (drop n xs ++ ys) - k) ≡ length (xs ++ ys) - k = simp (length-append, length-drop) (omega arith) in
      let f : drop n xs ++ ys ≡ drop n (xs ++ ys) = sym (drop-append-le n xs ys (omega arith)) in
      ap (λ (l : List A). drop (length (drop n xs ++ ys) - k) l) f ∙ (drop-drop (length (drop n xs ++ ys) - k) n (xs ++ ys) ∙ ap (λ (m : ℕ). drop m (xs ++ ys)) e)

  -- ---- the part from n on: `&s[n..]` as a callee sees it
  pub rest_is : (n : ℕ) (xs : List A) → take (length xs - n) (drop n xs) ≡ drop n xs
  rest_is n xs = take_all (length xs - n) (drop n xs) (rw length-drop (omega arith))

  -- ---- the block from i to e: `&s[i..e]` as a callee sees it, and what follows it
  pub block_is : (xs : List A) (i e : ℕ) → i ≤ e → take (e - i) (drop i xs) ++ drop e xs ≡ drop i xs
  block_is xs i e h =
      let n : i + (e - i) ≡ e = omega arith in
      ap (λ (l : List A). take (e - i) (drop i xs) ++ l) (ap (λ (k : ℕ). drop k xs) (sym n) ∙ sym (drop-drop (e - i) i xs)) ∙ take-append-drop (e - i) (drop i xs)

  pub count_block : (p : A → Bool) (xs : List A) (i e : ℕ) → i ≤ e → count p (drop i xs) ≡ count p (take (e - i) (drop i xs)) + count p (drop e xs)
  count_block p xs i e h = sym (ap (count p) (block_is xs i e h)) ∙ count_append p (take (e - i) (drop i xs)) (drop e xs)
