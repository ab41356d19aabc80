-- The places' names by their numbers, and the reasons' words.
use Rattle.std.specs.Prelude.{List, [], ◌∷◌, ℕ, get_or}
use Rattle.laws.specs.declared.Reason.{Reason}
use Rattle.laws.specs.declared.Reason.TheVariants.{Class255, BadByte, BadSecondByte, BrokenEscape, CutAtClose, NotInSlate}
use Rattle.scribe.specs.Text.{ascii}

abbrev places : List (List ℕ)
places =
    ascii "utf-8" ∷ ascii "iso-2022-jp" ∷ ascii "euc-kr" ∷ ascii "big5" ∷ ascii "caseless" ∷ ascii "logical" ∷ ascii "visual" ∷ ascii "arabic-french" ∷ []

unfoldable pub place_name : ℕ → List ℕ
place_name k = get_or places k (ascii "shift_jis")

-- why a place has no score
unfoldable pub reason_name : Reason → List ℕ
reason_name Class255 = ascii "class-255"
reason_name BadByte = ascii "bad-byte"
reason_name BadSecondByte = ascii "bad-second-byte"
reason_name BrokenEscape = ascii "broken-escape"
reason_name CutAtClose = ascii "cut-at-close"
reason_name NotInSlate = ascii "not-in-slate"
