-- A buffer and how far it is written.
use Rattle.std.specs.Prelude.{cond, List, [], ◌∷◌, ℕ, ◌+◌, ltb, length, set, take}

-- the buffer's bytes, and where the next one goes
pub data Page : Type 0 where
  page : List ℕ → ℕ → Page

-- one byte more; where there is no room it falls off
unfoldable pub put : Page → ℕ → Page
put (page xs at) b = page (set xs at b) (cond (ltb at (length xs)) (at + 1) (length xs))

unfoldable pub onto : Page → List ℕ → Page
onto p [] = p
onto p (b ∷ bs) = onto (put p b) bs

-- what is written
unfoldable pub text_of : Page → List ℕ
text_of (page xs at) = take at xs
