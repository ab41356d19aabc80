-- In a file with so many bytes from the end of the head on, a place up to that count is told as a byte of the file, and the next one
-- as its end.
use Rattle.std.specs.Prelude.{◌≡◌, List, ◌++◌, ℕ, suc, ◌+◌, ◌-◌, ◌≤◌, ◌<◌, length}
use Rattle.std.proofs.Common.{arith}
use borrow.Author.Tests.{ne_eqb, lt-ltb, le-ltb}
use Rattle.scribe.specs.Text.{ascii}
use Rattle.spot.specs.Spot.{byte_text, end_text, at_place_text}

module _ (file : List ℕ) (body n : ℕ) (within : body ≤ length file) where
  no_head : suc n ≡ 0 → ⊥
  no_head e = omega (arith, e)

  before : suc n - 1 ≡ n
  before = omega arith

  rest : length file - (length file - body) ≡ body
  rest = omega arith

  pub byte_told : n < body → at_place_text file (length file - body) (suc n) ≡ byte_text file (length file - body + n)
  unfolding at_place_text
  byte_told h = rw (ne_eqb (suc n) 0 no_head, before, rest, lt-ltb n body h)

  pub byte_in_file : n < body → length file - body + n < length file
  byte_in_file h = omega arith

  pub space_told : body ≤ n → at_place_text file (length file - body) (suc n) ≡ ascii ", the closing space" ++ end_text file
  unfolding at_place_text
  space_told h = rw (ne_eqb (suc n) 0 no_head, before, rest, le-ltb n body h)
