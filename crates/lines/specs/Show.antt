-- Whole lines as text: a reply's, a refused start's, and the eleven of a state.
use Rattle.std.specs.Prelude.{List, [], ◌∷◌, ◌++◌, ℕ, Ok, Err}
use Rattle.laws.specs.declared.Reason.{Reason}
use Rattle.names.specs.Names.{place_name, reason_name}
use Rattle.scribe.specs.Text.{ascii, newline, flag_of, hex_of, decimal_of, signed_of}
use Rattle.context.specs.Context.{bytes_of}
use Rattle.kinds.specs.Kinds.{place_number}
use Rattle.kinds.specs.declared.machine.Machine.{Machine}
use Rattle.kinds.specs.declared.machine.Machine.TheVariants.{Utf8, Iso2022Jp, EucKr, Big5, Caseless, Logical, Visual, ArabicFrench, ShiftJis}
use Rattle.places.specs.declared.place.Place.{Place}
use Rattle.places.specs.Score.{Score}
use Rattle.sheet.specs.Sheet.{leader_line}
use Rattle.state.specs.Leader.{leader_of}
use Rattle.state.specs.Reply as reply
use Rattle.state.specs.declared.reply.Reply.{Reply}
use Rattle.state.specs.declared.reply.StartReply as start
use Rattle.state.specs.declared.front.Front.{Front}
use Rattle.state.specs.declared.State.{State}
use Rattle.lines.specs.Fields.{utf8_text, iso2022jp_text, euckr_text, big5_text, caseless_text, logical_text, visual_text, arabic_french_text, shift_jis_text}

unfoldable pub reply_text : Reply → List ℕ
reply_text r = (ascii "reply " ++ decimal_of (reply.number_of r)) ++ (ascii " " ++ flag_of (reply.reply_flag r)) ++ newline

-- a start that was accepted has no line
unfoldable pub start_text : start.StartReply → List ℕ
start_text start.TheVariants.Accepted = []
start_text start.TheVariants.NoSuchPlace = (ascii "start " ++ decimal_of (reply.start_number start.TheVariants.NoSuchPlace)) ++ newline

-- ---- the front
abbrev pub hexes_of : List ℕ → List ℕ
hexes_of [] = []
hexes_of (b ∷ bs) = hex_of b ++ hexes_of bs

-- the saved bytes, oldest first; `-` where there are none
abbrev pub saved_text : List ℕ → List ℕ
saved_text [] = ascii "-"
saved_text (b ∷ bs) = hexes_of (b ∷ bs)

-- how many bytes were accepted, and how many of them from the end of the head on
unfoldable pub bytes_text : ℕ → ℕ → List ℕ
bytes_text n body = (ascii " bytes=" ++ decimal_of n) ++ (ascii " body=" ++ decimal_of body)

unfoldable pub front_text : Front → List ℕ
front_text f =
    ascii "front context="
    ++ saved_text (bytes_of f.context)
    ++ (ascii " esc=" ++ flag_of f.esc_seen)
    ++ (ascii " nonascii=" ++ decimal_of f.non_ascii_seen)
    ++ (ascii " closed=" ++ flag_of f.closed)
    ++ bytes_text f.bytes f.body
    ++ newline

-- ---- the places
unfoldable pub record_text : Machine → List ℕ
record_text (Utf8 m) = utf8_text m
record_text (Iso2022Jp m) = iso2022jp_text m
record_text (EucKr m) = euckr_text m
record_text (Big5 m) = big5_text m
record_text (Caseless m) = caseless_text m
record_text (Logical m) = logical_text m
record_text (Visual m) = visual_text m
record_text (ArabicFrench m) = arabic_french_text m
record_text (ShiftJis m) = shift_jis_text m

-- a place without a score shows why and where, and nothing of its record
unfoldable pub dropped_text : Reason → ℕ → List ℕ
dropped_text d at = ascii " none " ++ reason_name d ++ (ascii " " ++ decimal_of at) ++ newline

unfoldable pub scored_text : Machine → Score → List ℕ
scored_text m (Err why) = dropped_text why.reason why.at
scored_text m (Ok n) = ascii " " ++ signed_of n ++ record_text m ++ newline

unfoldable pub place_text : Place → List ℕ
place_text p = place_name (place_number p.machine) ++ scored_text p.machine p.score

unfoldable pub places_text : List Place → List ℕ
places_text [] = []
places_text (p ∷ ps) = place_text p ++ places_text ps

-- ---- all of them, and the line of the leader, which the printed sheet has too
unfoldable pub state_text : State → List ℕ
state_text s = front_text s.front ++ places_text s.places ++ leader_line (leader_of s)
