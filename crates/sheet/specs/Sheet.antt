-- The printed sheet of a state: document 01's lines, and document 02's, thirteen in all, each ended by a newline.
use Rattle.std.specs.Prelude.{List, [], ◌∷◌, ◌++◌, ℕ, suc, Ok, Err}
use Rattle.names.specs.Names.{place_name}
use Rattle.scribe.specs.Text.{ascii, newline, decimal_of, signed_of}
use Rattle.places.specs.declared.place.Place.{Place}
use Rattle.places.specs.Score.{Score}
use Rattle.state.specs.Leader.{leader_of}
use Rattle.state.specs.declared.State.{State}
use Rattle.state.specs.declared.leader.Leader as leader

-- a score with its sign and without leading zeros; why there is none is not told
unfoldable pub score_text : Score → List ℕ
score_text (Err why) = ascii "none"
score_text (Ok n) = signed_of n

-- the place with number k, by its score
unfoldable pub place_line : ℕ → Score → List ℕ
place_line k s = place_name k ++ ascii " " ++ score_text s ++ newline

-- places in the order of their numbers, the first one's being k
unfoldable pub place_lines : ℕ → List Place → List ℕ
place_lines k [] = []
place_lines k (p ∷ ps) = place_line k p.score ++ place_lines (suc k) ps

unfoldable pub leader_name : leader.Leader → List ℕ
leader_name leader.TheVariants.Ascii = ascii "ascii"
leader_name leader.TheVariants.None = ascii "none"
leader_name (leader.TheVariants.Place k) = place_name k

unfoldable pub leader_line : leader.Leader → List ℕ
leader_line l = ascii "leader " ++ leader_name l ++ newline

abbrev pub bytes_line : ℕ → List ℕ
bytes_line n = ascii "bytes " ++ decimal_of n ++ newline

unfoldable pub sheet_of : State → List ℕ
sheet_of s =
    ascii "slate 2"
    ++ newline
    ++ bytes_line s.front.bytes
    ++ (ascii "nonascii " ++ decimal_of s.front.non_ascii_seen ++ newline)
    ++ place_lines 0 s.places
    ++ leader_line (leader_of s)
