-- Texts join; a text that finds room stands on the page as it is.
use Rattle.std.specs.Prelude.{◌≡◌, refl, cond, List, [], ◌∷◌, ◌++◌, ℕ, suc, ◌+◌, ◌≤◌, ◌<◌, length, get_or, take, drop, set, ltb}
use Rattle.std.proofs.Common.{ap, ◌∙◌, add-one, arith, length-set, drop_of_length-le, drop-cons, lt-ltb, le-ltb, ltb-true}
use Rattle.std.proofs.lemmas.List.Edits.{sets, sets-eq}
use Rattle.std.proofs.Math.Seq.{set_out}
use Rattle.laws.specs.Tests.{either}
use Rattle.scribe.specs.Page.{Page, page, put, onto}

pub onto_append : (p : Page) (xs ys : List ℕ) → onto (onto p xs) ys ≡ onto p (xs ++ ys)
unfolding onto
onto_append p [] ys = refl
onto_append p (x ∷ xs) ys = onto_append (put p x) xs ys

pub onto_one : (p : Page) (b : ℕ) → put p b ≡ onto p (b ∷ [])
unfolding onto
onto_one p b = refl

-- ---- for a loop: one turn at i, and the end
pub onto_turn : (p q : Page) (text : List ℕ) (i : ℕ) → i < length text → q ≡ put p (get_or text i 0) → onto q (drop (i + 1) text) ≡ onto p (drop i text)
unfolding onto
onto_turn p q text i h e = rw (drop-cons text i 0 h, e, add-one)

pub onto_done : (p : Page) (text : List ℕ) (i : ℕ) → length text ≤ i → onto p (drop i text) ≡ p
unfolding onto
onto_done p text i h = rw (drop_of_length-le text {i = i} h)

pub full : (xs : List ℕ) (at b : ℕ) → length xs ≤ at → page xs (length xs) ≡ put (page xs at) b
unfolding put
full xs at b h = rw (le-ltb at (length xs) h, set_out xs at b h)

pub room : (xs : List ℕ) (at b : ℕ) → at < length xs → page (set xs at b) (at + 1) ≡ put (page xs at) b
unfolding put
room xs at b h = rw (lt-ltb at (length xs) h)

-- ---- a text that finds room
stored : (ts xs : List ℕ) (at : ℕ) → at + length ts ≤ length xs → onto (page xs at) ts ≡ page (sets xs at ts) (at + length ts)
unfolding onto
stored [] xs at h = ap (page xs) (omega arith)
stored (t ∷ ts) xs at h =
    let l : length (set xs at t) ≡ length xs = length-set xs at t in
    let n : at + 1 + length ts ≡ at + suc (length ts) = omega arith in
    rw (← room xs at t (omega arith), stored ts (set xs at t) (at + 1) (omega arith), n, add-one)

-- what stood before it and after it stays
pub written : (ts xs : List ℕ) (at : ℕ) → at + length ts ≤ length xs → onto (page xs at) ts ≡ page (take at xs ++ ts ++ drop (at + length ts) xs) (at + length ts)
written ts xs at h = stored ts xs at h ∙ rw (sets-eq ts xs at h)

-- one text after the other
pub follow : (p : Page) (xs ys : List ℕ) {q r : Page} → q ≡ onto p xs → r ≡ onto q ys → r ≡ onto p (xs ++ ys)
follow p xs ys e f = f ∙ (ap (λ (s : Page). onto s ys) e ∙ onto_append p xs ys)

next : (at n : ℕ) → cond (ltb at n) (at + 1) n ≤ n
next at n = either (λ (k : ℕ). k ≤ n) (ltb at n) (λ e. omega (arith, ltb-true at n e)) (λ e. omega arith)

-- a page is never written past its end
pub reach : (ts xs : List ℕ) (at : ℕ) (ys : List ℕ) (r : ℕ) → at ≤ length xs → page ys r ≡ onto (page xs at) ts → r ≤ length ys
unfolding onto put
reach [] xs at ys r h e =
    let p : r ≡ at = cc in
    let q : ys ≡ xs = cc in
    rw (p, q) h
reach (t ∷ ts) xs at ys r h e = reach ts (set xs at t) (cond (ltb at (length xs)) (at + 1) (length xs)) ys r (rw length-set (next at (length xs))) e

-- two pages that equal a third are written alike
pub alike : {e : Page} {xs ys : List ℕ} {z z' : ℕ} → page xs z ≡ e → page ys z' ≡ e → (z ≡ z') × (xs ≡ ys)
alike p q = (cc, cc)
