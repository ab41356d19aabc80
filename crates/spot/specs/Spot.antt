-- Why and where in a file a place dropped out, as text.
use Rattle.std.specs.Prelude.{cond, List, [], ◌∷◌, ◌++◌, ℕ, ◌+◌, ◌-◌, eqb, ltb, length, get_or, take, drop}
use Rattle.laws.specs.declared.Reason.{Reason}
use Rattle.laws.specs.declared.Reason.TheVariants.{Class255, BadByte, BadSecondByte, BrokenEscape, CutAtClose, NotInSlate}
use Rattle.names.specs.Names.{reason_name}
use Rattle.scribe.specs.Text.{ascii, hex_of, decimal_of}

-- ---- the bytes around an offset
-- so many are shown on each side, where the file has them
abbrev pub side : ℕ
side = 4

-- the bytes from an offset up to another, or to the end of the file
abbrev pub slice_of : ℕ → ℕ → List ℕ → List ℕ
slice_of from to file = take (to - from) (drop from file)

-- in hexadecimal, a space before each
unfoldable pub spaced_hexes : List ℕ → List ℕ
spaced_hexes [] = []
spaced_hexes (b ∷ bs) = ascii " " ++ hex_of b ++ spaced_hexes bs

unfoldable pub before_text : List ℕ → ℕ → List ℕ
before_text file at = spaced_hexes (slice_of (at - side) at file)

-- the byte at an offset, marked, and those after it
unfoldable pub marked_text : List ℕ → ℕ → List ℕ
marked_text file at = ascii " [" ++ hex_of (get_or file at 0) ++ ascii "]" ++ spaced_hexes (slice_of (at + 1) (at + 1 + side) file)

-- ---- where: at a byte of the file, or at its end
unfoldable pub byte_text : List ℕ → ℕ → List ℕ
byte_text file at = ascii " at offset " ++ decimal_of at ++ ascii ":" ++ before_text file at ++ marked_text file at

unfoldable pub end_text : List ℕ → List ℕ
end_text file = ascii " at the end of the file, offset " ++ decimal_of (length file) ++ ascii ":" ++ before_text file (length file)

-- a byte by its place, which is counted from 1 at the end of the head, of so many bytes; the one past the last is the closing space
unfoldable pub at_place_text : List ℕ → ℕ → ℕ → List ℕ
at_place_text file head at =
    cond (eqb at 0) (ascii " in the head") (cond (ltb (at - 1) (length file - head)) (byte_text file (head + (at - 1))) (ascii ", the closing space" ++ end_text file))

unfoldable pub where_text : List ℕ → ℕ → Reason → ℕ → List ℕ
where_text file head Class255 at = at_place_text file head at
where_text file head BadByte at = at_place_text file head at
where_text file head BadSecondByte at = at_place_text file head at
where_text file head BrokenEscape at = at_place_text file head at
where_text file head CutAtClose at = ascii "," ++ end_text file
where_text file head NotInSlate at = []

-- ---- why: the reason's word, with a space for each `-`
unfoldable pub unhyphened : List ℕ → List ℕ
unhyphened [] = []
unhyphened (b ∷ bs) = cond (eqb b 45) 32 b ∷ unhyphened bs

unfoldable pub spot_text : List ℕ → ℕ → Reason → ℕ → List ℕ
spot_text file head d at = unhyphened (reason_name d) ++ where_text file head d at
