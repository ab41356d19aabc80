-- What holds of the saved context after any chunks.
use Rattle.std.specs.Prelude.{◌≡◌, refl, ℕ, suc, ◌-◌, ◌≤◌, length, get_or}
use Rattle.std.proofs.Common.{sym, ap, ◌∙◌, not-suc-le-zero, arith, length-take, drop-cons, take_all}
use mathlib.Core.List.{List, [], ◌∷◌, ◌++◌, append-nil}
use Rattle.std.proofs.Math.Seq.{drop-length}
use Rattle.laws.specs.Lists.{last, last_short, last_length, last_append, last_last}
use Rattle.context.specs.declared.Context.{Context}
use Rattle.context.specs.Context.{bytes_of, context_of, push_of}

-- ---- a context holds two bytes at most, and a list of at most two is what its context holds
pub bytes_most : (c : Context) → length (bytes_of c) ≤ 2
bytes_most c = rw length-take (omega arith)

pub bytes_context : (xs : List ℕ) → length xs ≤ 2 → bytes_of (context_of xs) ≡ xs
bytes_context [] h = refl
bytes_context (a ∷ []) h = refl
bytes_context (a ∷ b ∷ []) h = refl
bytes_context (a ∷ b ∷ x ∷ xs) h = absurd (omega (arith, h))

-- ---- what a push leaves
pub push_bytes : (c : Context) (xs : List ℕ) → bytes_of (push_of c xs) ≡ last 2 (bytes_of c ++ xs)
unfolding push_of
push_bytes c [] = sym (ap (last 2) (append-nil (bytes_of c)) ∙ last_short 2 (bytes_of c) (bytes_most c))
push_bytes c (x ∷ xs) = bytes_context (last 2 (bytes_of c ++ (x ∷ xs))) (last_length 2 (bytes_of c ++ (x ∷ xs)))

-- ---- each way through the code
pub push_none : (c : Context) (xs : List ℕ) → length xs ≡ 0 → c ≡ push_of c xs
unfolding push_of
push_none c [] h = refl
push_none c (x ∷ xs) h = absurd (omega (arith, h))

pub push_one : (c : Context) (xs : List ℕ) → length xs ≡ 1 → push_of c (get_or xs 0 0 ∷ []) ≡ push_of c xs
push_one c [] h = absurd (omega (arith, h))
push_one c (x ∷ []) h = refl
push_one c (x ∷ y ∷ xs) h = absurd (omega (arith, h))

last_pair : (xs : List ℕ) → 2 ≤ length xs → last 2 xs ≡ get_or xs (length xs - 2) 0 ∷ get_or xs (length xs - 1) 0 ∷ []
unfolding last
last_pair xs h =
    let n = length xs in
    let i : suc (n - 2) ≡ n - 1 = omega arith in
    let j : suc (n - 1) ≡ n = omega arith in
    rw (drop-cons xs (n - 2) 0 (omega arith), i, drop-cons xs (n - 1) 0 (omega arith), j, drop-length)

pub push_two : (c : Context) (xs : List ℕ) → 2 ≤ length xs → record { first = get_or xs (length xs - 2) 0; second = get_or xs (length xs - 1) 0; len = 2 } ≡ push_of c xs
unfolding push_of
push_two c [] h = absurd (not-suc-le-zero h)
push_two c (x ∷ xs) h = sym (ap context_of (last_append 2 (bytes_of c) (x ∷ xs) h ∙ last_pair (x ∷ xs) h))

module _ (c : Context) (b : ℕ) where
  pub push_first : c.len ≡ 0 → record { first = b; second = 0; len = 1 } ≡ push_of c (b ∷ [])
  unfolding push_of last
  push_first e = rw e

  pub push_second : c.len ≡ 1 → record { first = c.first; second = b; len = 2 } ≡ push_of c (b ∷ [])
  unfolding push_of last
  push_second e = rw e

  pub push_third : 2 ≤ c.len → record { first = c.second; second = b; len = 2 } ≡ push_of c (b ∷ [])
  unfolding push_of last
  push_third h = rw (take_all c.len (c.first ∷ c.second ∷ []) h)

-- ---- over many chunks
-- from the context of the last two bytes of what came before, the context of the last two of all
pub push_context : (xs ys : List ℕ) → push_of (context_of (last 2 xs)) ys ≡ context_of (last 2 (xs ++ ys))
unfolding push_of
push_context xs [] = ap (λ (l : List ℕ). context_of (last 2 l)) (sym (append-nil xs))
push_context xs (y ∷ ys) =
    ap context_of (ap (λ (l : List ℕ). last 2 (l ++ (y ∷ ys))) (bytes_context (last 2 xs) (last_length 2 xs)) ∙ last_last 2 xs (y ∷ ys))
