-- A buffer of 2,048 bytes has room for the eleven lines of any state: no number has more than 20 digits, and the words are short.
use Rattle.std.specs.Prelude.{◌≡◌, refl, Bool, List, [], ◌∷◌, ◌++◌, ℕ, zero, suc, ◌*◌, length, take, drop, Ok, Err, None, Some, Option, ℤ}
use Rattle.std.proofs.Common.{arith}
use Rattle.std.proofs.Math.Seq.{take-nil}
use Rattle.laws.specs.declared.Reason.{Reason}
use Rattle.names.specs.NamesLaws.{place_name_lem, reason_name_lem}
use Rattle.scribe.specs.FitsLaws.{Fits, text, line_end, joined, wide, flag, hex, decimal, signed, whole}
use Rattle.scribe.specs.Page.{page, onto}
use Rattle.big5.specs.declared.LatinCj as cj
use Rattle.euckr.specs.declared.LatinKorean as korean
use Rattle.iso2022jp.specs.declared.DecoderState as decoder
use Rattle.iso2022jp.specs.declared.OutputState as output
use Rattle.arabic_french.specs.declared.LatinCaseState as case
use Rattle.kinds.specs.Kinds.{place_number}
use Rattle.kinds.specs.declared.machine.Machine.{Machine}
use Rattle.kinds.specs.declared.machine.Machine.TheVariants.{Utf8, Iso2022Jp, EucKr, Big5, Caseless, Logical, Visual, ArabicFrench, ShiftJis}
use Rattle.places.specs.declared.place.Place.{Place}
use Rattle.places.specs.Score.{Score}
use Rattle.sheet.specs.SheetLaws.{leader_short}
use Rattle.state.specs.Leader.{leader_of}
use Rattle.state.specs.declared.State.{State}
use Rattle.state.specs.declared.front.Front.{Front}
use Rattle.lines.specs.Fields.{held_text, utf8_text, iso2022jp_text, euckr_text, big5_text, class_text, words_text, caseless_text, logical_text, visual_text, arabic_french_text, shift_jis_text}
use Rattle.lines.specs.Names.{state_name, out_name, korean_name, cj_name, case_name}
use Rattle.lines.specs.Show.{saved_text, bytes_text, front_text, record_text, dropped_text, scored_text, place_text, places_text, state_text}

held : (h : Option ℤ) → Fits 21 (held_text h)
unfolding held_text
held None = wide (text "none") refl
held (Some z) = signed z

-- ---- names
state_name_lem : (s : decoder.DecoderState) → Fits 12 (state_name s)
unfolding state_name
state_name_lem decoder.TheVariants.Ascii = wide (text "ascii") refl
state_name_lem decoder.TheVariants.Roman = wide (text "roman") refl
state_name_lem decoder.TheVariants.Katakana = wide (text "katakana") refl
state_name_lem decoder.TheVariants.LeadByte = wide (text "lead") refl
state_name_lem decoder.TheVariants.TrailByte = wide (text "trail") refl
state_name_lem decoder.TheVariants.EscapeStart = wide (text "escape-start") refl
state_name_lem decoder.TheVariants.Escape = wide (text "escape") refl

out_name_lem : (s : output.OutputState) → Fits 8 (out_name s)
unfolding out_name
out_name_lem output.TheVariants.Ascii = wide (text "ascii") refl
out_name_lem output.TheVariants.Roman = wide (text "roman") refl
out_name_lem output.TheVariants.Katakana = wide (text "katakana") refl
out_name_lem output.TheVariants.LeadByte = wide (text "lead") refl

korean_name_lem : (s : korean.LatinKorean) → Fits 6 (korean_name s)
unfolding korean_name
korean_name_lem korean.TheVariants.AsciiLetter = wide (text "letter") refl
korean_name_lem korean.TheVariants.Hangul = wide (text "hangul") refl
korean_name_lem korean.TheVariants.Hanja = wide (text "hanja") refl
korean_name_lem korean.TheVariants.Other = wide (text "other") refl

cj_name_lem : (s : cj.LatinCj) → Fits 6 (cj_name s)
unfolding cj_name
cj_name_lem cj.TheVariants.AsciiLetter = wide (text "letter") refl
cj_name_lem cj.TheVariants.Cj = wide (text "cj") refl
cj_name_lem cj.TheVariants.Other = wide (text "other") refl

case_name_lem : (s : case.LatinCaseState) → Fits 5 (case_name s)
unfolding case_name
case_name_lem case.TheVariants.Space = wide (text "space") refl
case_name_lem case.TheVariants.Upper = wide (text "upper") refl
case_name_lem case.TheVariants.Lower = wide (text "lower") refl
case_name_lem case.TheVariants.AllCaps = wide (text "caps") refl

-- ---- records
class : (prev : ℕ) (a : Bool) → Fits 34 (class_text prev a)
unfolding class_text
class prev a = joined (joined (text " prev=") (decimal prev)) (joined (text " ascii=") (flag a))

words : (current longest : ℕ) → Fits 55 (words_text current longest)
unfolding words_text
words current longest = joined (joined (text " word=") (decimal current)) (joined (text " longest=") (decimal longest))

in_record : (m : Machine) → Fits 128 (record_text m)
unfolding record_text utf8_text iso2022jp_text euckr_text big5_text caseless_text logical_text visual_text arabic_french_text shift_jis_text
in_record (Utf8 m) = wide (joined (joined (joined (text " need=") (decimal m.need)) (joined (text " lo=") (hex m.lo))) (joined (text " hi=") (hex m.hi))) refl
in_record (Iso2022Jp m) = wide (joined (joined (joined (joined (joined (text " state=") (state_name_lem m.state)) (text " out=")) (out_name_lem m.out)) (joined (text " lead=") (hex m.lead))) (joined (text " output=") (flag m.output))) refl
in_record (EucKr m) = wide (joined (joined (joined (joined (joined (joined (joined (text " lead=") (hex m.lead)) (joined (text " byte=") (hex m.prev_byte))) (joined (text " euc=") (flag m.prev_was_euc_range))) (text " prev=")) (korean_name_lem m.prev)) (joined (text " word=") (decimal m.current_word_len))) (joined (text " held=") (held m.held))) refl
in_record (Big5 m) = wide (joined (joined (joined (joined (joined (text " lead=") (hex m.lead)) (joined (text " byte=") (hex m.prev_byte))) (text " prev=")) (cj_name_lem m.prev)) (joined (text " held=") (held m.held))) refl
in_record (Caseless m) = wide (joined (class m.prev m.prev_ascii) (words m.current_word_len m.longest_word)) refl
in_record (Logical m) = wide (joined (joined (class m.prev m.prev_ascii) (joined (text " punct=") (decimal m.plausible_punctuation))) (words m.current_word_len m.longest_word)) refl
in_record (Visual m) = wide (joined (joined (joined (class m.prev m.prev_ascii) (joined (text " prevpunct=") (flag m.prev_punctuation))) (joined (text " punct=") (decimal m.plausible_punctuation))) (words m.current_word_len m.longest_word)) refl
in_record (ArabicFrench m) = wide (joined (joined (joined (class m.prev m.prev_ascii) (text " case=")) (case_name_lem m.case_state)) (words m.current_word_len m.longest_word)) refl
in_record (ShiftJis m) = wide (joined (text " lead=") (hex m.lead)) refl

-- ---- lines
dropped : (d : Reason) (at : ℕ) → Fits 43 (dropped_text d at)
unfolding dropped_text
dropped d at = joined (joined (joined (text " none ") (reason_name_lem d)) (joined (text " ") (decimal at))) line_end

scored : (m : Machine) (s : Score) → Fits 151 (scored_text m s)
unfolding scored_text
scored m (Err why) = wide (dropped why.reason why.at) refl
scored m (Ok n) = joined (joined (joined (text " ") (signed n)) (in_record m)) line_end

places : (ps : List Place) → Fits (164 * length ps) (places_text ps)
unfolding places_text place_text
places [] = record { short = omega arith }
places (p ∷ ps) =
    let f = joined (place_name_lem (place_number p.machine)) (scored p.machine p.score) in
    record { short = omega (arith, (joined f (places ps)).short) }

saved : (n a b : ℕ) → Fits 4 (saved_text (take n (a ∷ b ∷ [])))
saved zero a b = wide (text "-") refl
saved (suc zero) a b = wide (joined (hex a) (text "")) refl
saved (suc (suc n)) a b = rw (take-nil n) (wide (joined (hex a) (joined (hex b) (text ""))) refl)

bytes : (n body : ℕ) → Fits 53 (bytes_text n body)
unfolding bytes_text
bytes n body = joined (joined (text " bytes=") (decimal n)) (joined (text " body=") (decimal body))

front : (f : Front) → Fits 117 (front_text f)
unfolding front_text
front f = joined (joined (joined (joined (joined (joined (text "front context=") (saved f.context.len f.context.first f.context.second)) (joined (text " esc=") (flag f.esc_seen))) (joined (text " nonascii=") (decimal f.non_ascii_seen))) (joined (text " closed=") (flag f.closed))) (bytes f.bytes f.body)) line_end

pub state_short : (s : State) → length s.places ≡ 9 → Fits 2048 (state_text s)
unfolding state_text
state_short s e =
    let f = joined (joined (front s.front) (places s.places)) (leader_short (leader_of s)) in
    record { short = omega (arith, e, f.short) }

-- What is written into such a buffer is the whole text.
pub state_whole : (s : State) (xs : List ℕ) → length s.places ≡ 9 → length xs ≡ 2048 → onto (page xs 0) (state_text s) ≡ page (state_text s ++ drop (length (state_text s)) xs) (length (state_text s))
state_whole s xs e h = whole 2048 xs (state_text s) (state_short s e) (omega arith)
