-- How long the text of a drop-out can be: no number has more than 20 digits, and four bytes at most stand on each side.
use Rattle.std.specs.Prelude.{◌≡◌, refl, List, [], ◌∷◌, ℕ, ◌+◌, ◌-◌, ◌*◌, ◌≤◌, eqb, ltb, length, get_or, drop}
use Rattle.std.proofs.Common.{arith, length-take}
use Rattle.laws.specs.Tests.{picked}
use Rattle.laws.specs.declared.Reason.{Reason}
use Rattle.laws.specs.declared.Reason.TheVariants.{Class255, BadByte, BadSecondByte, BrokenEscape, CutAtClose, NotInSlate}
use Rattle.names.specs.Names.{reason_name}
use Rattle.names.specs.NamesLaws.{reason_name_lem}
use Rattle.scribe.specs.FitsLaws.{Fits, text, joined, wide, hex, decimal}
use Rattle.scribe.specs.Text.{hex_of}
use Rattle.spot.specs.Spot.{side, slice_of, spaced_hexes, before_text, marked_text, byte_text, end_text, at_place_text, where_text, unhyphened, spot_text}

three : (xs : List ℕ) → length (spaced_hexes xs) ≡ 3 * length xs
unfolding spaced_hexes hex_of
three [] = refl
three (x ∷ xs) = omega (arith, three xs)

four : (from to : ℕ) (file : List ℕ) → to - from ≤ side → Fits 12 (spaced_hexes (slice_of from to file))
four from to file h = record { short = omega (arith, three (slice_of from to file), length-take (to - from) (drop from file)) }

before : (file : List ℕ) (at : ℕ) → Fits 12 (before_text file at)
unfolding before_text
before file at = four (at - side) at file (omega arith)

marked : (file : List ℕ) (at : ℕ) → Fits 17 (marked_text file at)
unfolding marked_text
marked file at = joined (joined (joined (text " [") (hex (get_or file at 0))) (text "]")) (four (at + 1) (at + 1 + side) file (omega arith))

byte : (file : List ℕ) (at : ℕ) → Fits 81 (byte_text file at)
unfolding byte_text
byte file at = wide (joined (joined (joined (joined (text " at offset ") (decimal at)) (text ":")) (before file at)) (marked file at)) refl

end : (file : List ℕ) → Fits 65 (end_text file)
unfolding end_text
end file = wide (joined (joined (joined (text " at the end of the file, offset ") (decimal (length file))) (text ":")) (before file (length file))) refl

place : (file : List ℕ) (head at : ℕ) → Fits 84 (at_place_text file head at)
unfolding at_place_text
place file head at =
    picked (Fits 84) (eqb at 0) (wide (text " in the head") refl) (picked (Fits 84) (ltb (at - 1) (length file - head)) (wide (byte file (head + (at - 1))) refl) (wide (joined (text ", the closing space") (end file)) refl))

location : (file : List ℕ) (head : ℕ) (d : Reason) (at : ℕ) → Fits 84 (where_text file head d at)
unfolding where_text
location file head Class255 at = place file head at
location file head BadByte at = place file head at
location file head BadSecondByte at = place file head at
location file head BrokenEscape at = place file head at
location file head CutAtClose at = wide (joined (text ",") (end file)) refl
location file head NotInSlate at = wide (text "") refl

as_long : (xs : List ℕ) → length (unhyphened xs) ≡ length xs
unfolding unhyphened
as_long [] = refl
as_long (x ∷ xs) = omega (arith, as_long xs)

pub dropped_short : (file : List ℕ) (head : ℕ) (d : Reason) (at : ℕ) → Fits 99 (spot_text file head d at)
unfolding spot_text
dropped_short file head d at =
    let words : Fits 15 (unhyphened (reason_name d)) = record { short = omega (arith, as_long (reason_name d), (reason_name_lem d).short) } in
    joined words (location file head d at)
