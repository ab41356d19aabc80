-- The places' lines one after the other, in a loop: one turn at k, and the end.
use Rattle.std.specs.Prelude.{◌≡◌, List, ℕ, suc, ◌+◌, ◌≤◌, ◌<◌, length, get_or, drop}
use Rattle.std.proofs.Math.Numerals.{add-one}
use Rattle.std.proofs.Common.{drop_of_length-le, drop-cons}
use Rattle.scribe.specs.Page.{Page, onto}
use Rattle.scribe.specs.PageLaws.{onto_append}
use Rattle.places.specs.declared.place.Place.{Place}
use Rattle.account.specs.Account.{place_line, place_lines}

module _ (file : List ℕ) (head : ℕ) where
  pub lines_turn : (p q : Page) (ps : List Place) (k : ℕ) (d : Place) → k < length ps → q ≡ onto p (place_line file head k (get_or ps k d).score) → onto q (place_lines file head (k + 1) (drop (k + 1) ps)) ≡ onto p (place_lines file head k (drop k ps))
  unfolding place_lines
  lines_turn p q ps k d h e = rw (drop-cons ps k d h, add-one, e, ← onto_append p (place_line file head k (get_or ps k d).score) (place_lines file head (suc k) (drop (suc k) ps)))

  pub lines_done : (p : Page) (ps : List Place) (k : ℕ) → length ps ≤ k → onto p (place_lines file head k (drop k ps)) ≡ p
  unfolding onto place_lines
  lines_done p ps k h = rw (drop_of_length-le ps {i = k} h)
