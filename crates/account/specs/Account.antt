-- What is told of a file: each place with its score, or why and where in the file it dropped out.
use Rattle.std.specs.Prelude.{cond, List, [], ◌∷◌, ◌++◌, ℕ, suc, ◌-◌, ltb, length, Ok, Err}
use Rattle.names.specs.Names.{place_name}
use Rattle.scribe.specs.Text.{ascii, newline, decimal_of, signed_of}
use Rattle.spot.specs.Spot.{spot_text}
use Rattle.places.specs.declared.place.Place.{Place}
use Rattle.places.specs.Score.{Score}
use Rattle.state.specs.declared.State.{State}
use Rattle.state.specs.declared.front.Front.{Front}
use Rattle.label.specs.Label.{most, state_of}

-- how many bytes the head has
unfoldable pub head_length : Front → ℕ
head_length f = f.bytes - f.body

unfoldable pub told_text : List ℕ → ℕ → Score → List ℕ
told_text file head (Err why) = spot_text file head why.reason why.at
told_text file head (Ok n) = ascii "score " ++ signed_of n

-- the place with number k
unfoldable pub place_line : List ℕ → ℕ → ℕ → Score → List ℕ
place_line file head k s = place_name k ++ ascii ": " ++ told_text file head s ++ newline

-- places in the order of their numbers, the first one's being k
unfoldable pub place_lines : List ℕ → ℕ → ℕ → List Place → List ℕ
place_lines file head k [] = []
place_lines file head k (p ∷ ps) = place_line file head k p.score ++ place_lines file head (suc k) ps

unfoldable pub count_lines : ℕ → ℕ → List ℕ
count_lines bytes head = ascii "why 1" ++ newline ++ ascii "bytes " ++ decimal_of bytes ++ newline ++ ascii "head " ++ decimal_of head ++ newline

unfoldable pub account_of : List ℕ → State → List ℕ
account_of file s = count_lines s.front.bytes (head_length s.front) ++ place_lines file (head_length s.front) 0 s.places

-- of a file that is fed as a label is
unfoldable pub answer_of : List ℕ → List ℕ
answer_of file = cond (ltb most (length file)) (ascii "too long" ++ newline) (account_of file (state_of file))
