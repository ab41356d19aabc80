-- Loops over bytes, one turn at i and the end; the bytes of a text that found room.
use Rattle.std.specs.Prelude.{◌≡◌, refl, cond, List, ◌++◌, ℕ, suc, ◌+◌, ◌-◌, ◌≤◌, ◌<◌, eqb, ltb, length, get_or, take, drop}
use Rattle.std.proofs.Common.{sym, ◌∙◌, arith, drop_of_length-le, length-drop, drop-cons, take_all, take_at, ltb-false}
use Rattle.std.proofs.Math.Numerals.{add-one}
use Rattle.laws.specs.Tests.{either}
use Rattle.scribe.specs.FitsLaws.{Fits, whole}
use Rattle.scribe.specs.Page.{Page, page, put, onto, text_of}
use Rattle.scribe.specs.PageLaws.{onto_append}
use Rattle.scribe.specs.Text.{ascii, hex_of}
use Rattle.spot.specs.Spot.{side, slice_of, spaced_hexes, unhyphened}

module _ (p q : Page) (xs : List ℕ) (i : ℕ) where
  pub hexes_turn : i < length xs → q ≡ onto p (ascii " " ++ hex_of (get_or xs i 0)) → onto q (spaced_hexes (drop (i + 1) xs)) ≡ onto p (spaced_hexes (drop i xs))
  unfolding spaced_hexes
  hexes_turn h e = rw (drop-cons xs i 0 h, add-one, e, ← onto_append p (ascii " " ++ hex_of (get_or xs i 0)) (spaced_hexes (drop (suc i) xs)))

  pub spaced_turn : i < length xs → q ≡ put p (cond (eqb (get_or xs i 0) 45) 32 (get_or xs i 0)) → onto q (unhyphened (drop (i + 1) xs)) ≡ onto p (unhyphened (drop i xs))
  unfolding onto unhyphened
  spaced_turn h e = rw (drop-cons xs i 0 h, add-one, e)

module _ (p : Page) (xs : List ℕ) (i : ℕ) (h : length xs ≤ i) where
  pub hexes_done : onto p (spaced_hexes (drop i xs)) ≡ p
  unfolding onto spaced_hexes
  hexes_done = rw (drop_of_length-le xs {i = i} h)

  pub spaced_done : onto p (unhyphened (drop i xs)) ≡ p
  unfolding onto unhyphened
  spaced_done = rw (drop_of_length-le xs {i = i} h)

-- what stands on a page with room is the text
pub stands : {n : ℕ} {ts ys : List ℕ} {r : ℕ} (xs : List ℕ) → Fits n ts → n ≤ length xs → page ys r ≡ onto (page xs 0) ts → take r ys ≡ ts
stands {n} {ts} {ys} {r} xs f h e =
    let w = e ∙ whole n xs ts f h in
    let a : ys ≡ ts ++ drop (length ts) xs = cc in
    let b : r ≡ length ts = cc in
    rw (a, b) (take_at ts (drop (length ts) xs) (length ts) refl)

pub text_stands : {n : ℕ} {ts : List ℕ} {p q : Page} (xs : List ℕ) → Fits n ts → n ≤ length xs → p ≡ page xs 0 → q ≡ onto p ts → text_of q ≡ ts
unfolding text_of
text_stands {n} {ts} xs f h d e = rw (e, d, whole n xs ts f h, take_at ts (drop (length ts) xs) (length ts) refl)

-- past the end of the file there are no bytes
past : (from to : ℕ) (file : List ℕ) → length file ≤ to → slice_of from (length file) file ≡ slice_of from to file
past from to file h = take_all (length file - from) (drop from file) (rw length-drop (omega arith)) ∙ sym (take_all (to - from) (drop from file) (rw length-drop (omega arith)))

pub up_to : (from to : ℕ) (file : List ℕ) → slice_of from (cond (ltb to (length file)) to (length file)) file ≡ slice_of from to file
up_to from to file = either (λ (k : ℕ). slice_of from k file ≡ slice_of from to file) (ltb to (length file)) (λ e. refl) (λ e. past from to file (ltb-false to (length file) e))

-- where the bytes after an offset end that are shown
pub record Shown (offset length r : ℕ) : Type 0 where
  pub low : offset < r
  pub high : r ≤ length
  pub last : r ≡ cond (ltb (offset + 1 + side) length) (offset + 1 + side) length
