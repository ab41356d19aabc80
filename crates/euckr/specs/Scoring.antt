-- How EUC-KR is scored: what each event does to the kind before, the word, the held score and the score.
use Rattle.std.specs.Prelude.{Bool, true, false, cond, not, ◌&&◌, ◌||◌, List, ℕ, ◌+◌, ◌-◌, ltb, eqb, ℤ, pos, ◌+ℤ◌, get_or, None, Some, Option}
use Rattle.laws.specs.Run.{Outcome, none, live}
use Rattle.octets.specs.Octets.{between, ascii, letter}
use Rattle.pairs.specs.Pairs.{is_held_lead, reason_by, released_of}
use Rattle.pairs.specs.declared.Event.{Event}
use Rattle.pairs.specs.declared.Event.TheVariants.{Pending, Point, Two, Error}
use Rattle.weights.specs.Weights.{weight_of, cjk_latin_adjacency, cjk_other, euc_hangul, non_euc_hangul, hanja, hanja_after_hangul, euc_kr_pua, mac_korean, euc_kr_extension, long_word}
use Rattle.euckr_decoder.specs.Standard.{decode_of}
use Rattle.euckr.specs.declared.EucKr.{EucKr}
use Rattle.euckr.specs.declared.LatinKorean.{LatinKorean}
use Rattle.euckr.specs.declared.LatinKorean.TheVariants.{AsciiLetter, Hangul, Hanja, Other}
use Rattle.euckr.specs.declared.Scale.{Scale}
use Rattle.euckr.specs.declared.Scored.{Scored}

-- the lent weights that EUC-KR uses, by name
unfoldable pub scale_of : List ℤ → Scale
scale_of weights =
    record { adjacency = weight_of weights cjk_latin_adjacency; other = weight_of weights cjk_other; hangul = weight_of weights euc_hangul; outer = weight_of weights non_euc_hangul; hanja = weight_of weights hanja; mixed = weight_of weights hanja_after_hangul; pua = weight_of weights euc_kr_pua; mac = weight_of weights mac_korean; extension = weight_of weights euc_kr_extension; long = weight_of weights long_word }

-- ---- bytes and units
-- EUC's range: the pairs of KS X 1001 have both bytes in it, those that code page 949 adds have not
abbrev pub is_euc : ℕ → Bool
is_euc b = between 0xA1 0xFE b

-- the Hangul syllables
abbrev pub is_hangul : ℕ → Bool
is_hangul u = between 0xAC00 0xD7A3 u

-- Hanja: the unified ideographs and on to the Hangul, where the index has nothing more; and F900 to FA0B, those that KS X 1001 has
-- again under another reading
abbrev pub is_hanja : ℕ → Bool
is_hanja u = between 0x4E00 0xABFF u || between 0xF900 0xFA0B u

-- the lent extra of a Hangul
unfoldable pub extra_of : List ℤ → ℕ → ℤ
extra_of extras u = get_or extras (u - 0xAC00) (pos 0)

-- ---- kinds
abbrev pub is_after_hangul : LatinKorean → Bool
is_after_hangul AsciiLetter = false
is_after_hangul Hangul = true
is_after_hangul Hanja = false
is_after_hangul Other = false

-- what a Hangul adds after this kind: a letter beside it
abbrev pub hangul_after : Scale → LatinKorean → ℤ
hangul_after w AsciiLetter = w.adjacency
hangul_after w Hangul = pos 0
hangul_after w Hanja = pos 0
hangul_after w Other = pos 0

-- what a Hanja adds after this kind: a letter beside it, or that it follows Hangul
abbrev pub hanja_after : Scale → LatinKorean → ℤ
hanja_after w AsciiLetter = w.adjacency
hanja_after w Hangul = w.mixed
hanja_after w Hanja = pos 0
hanja_after w Other = pos 0

-- what a letter adds after this kind: a Hangul or a Hanja beside it
abbrev pub letter_after : Scale → LatinKorean → ℤ
letter_after w AsciiLetter = pos 0
letter_after w Hangul = w.adjacency
letter_after w Hanja = w.adjacency
letter_after w Other = pos 0

-- what a word of Hangul and Hanja adds that has become n long: it is long from the sixth on
unfoldable pub long_of : Scale → ℕ → ℤ
long_of w n = cond (ltb 5 n) w.long (pos 0)

-- the kind, the word's length, what is held, and the score's change after a byte
abbrev pub scored : LatinKorean → ℕ → Option ℤ → ℤ → Scored
scored prev word held gain = record { prev = prev; word = word; held = held; gain = gain }

-- the score of a Hangul outside the EUC range waits for what follows
unfoldable pub holds_of : EucKr → Bool
holds_of m = not (is_after_hangul m.prev) && is_held_lead m.prev_byte

module _ (w : Scale) (m : EucKr) where
  -- a letter discards what is held, and ends the word
  unfoldable pub letter_of : Scored
  letter_of = scored AsciiLetter 0 None (letter_after w m.prev)

  -- what a Hangul adds besides its own score: what is held is released; its neighbour; its word
  unfoldable pub around_of : ℤ
  around_of = released_of m.held +ℤ hangul_after w m.prev +ℤ long_of w (m.current_word_len + 1)

  -- a Hangul of two bytes in the EUC range is one of KS X 1001, and has an extra of its own
  unfoldable pub inner_of : ℤ → Scored
  inner_of extra = scored Hangul (m.current_word_len + 1) None (around_of +ℤ w.hangul +ℤ extra)

  -- any other is one that code page 949 adds: its score is added, or held
  unfoldable pub outer_of : Scored
  outer_of =
      cond (holds_of m)
      (scored Hangul (m.current_word_len + 1) (Some w.outer) around_of)
      (scored Hangul (m.current_word_len + 1) None (around_of +ℤ w.outer))

  unfoldable pub hangul_of : List ℤ → ℕ → ℕ → Scored
  hangul_of extras u b = cond (m.prev_was_euc_range && is_euc b) (inner_of (extra_of extras u)) outer_of

  -- a Hanja, or a pair that counts as one
  unfoldable pub hanja_of : ℤ → Scored
  hanja_of own = scored Hanja (m.current_word_len + 1) None (released_of m.held +ℤ own +ℤ hanja_after w m.prev +ℤ long_of w (m.current_word_len + 1))

-- anything else that is not ASCII releases what is held, and ends the word
unfoldable pub other_of : EucKr → ℤ → Scored
other_of m own = scored Other 0 None (released_of m.held +ℤ own)

-- one unit at byte b, in the Rust's order
unfoldable pub unit_of : Scale → List ℤ → EucKr → ℕ → ℕ → Scored
unit_of w extras m u b =
    cond (letter u) (letter_of w m)
    (cond (is_hangul u) (hangul_of w m extras u b)
    (cond (is_hanja u) (hanja_of w m w.hanja)
    (cond (ascii u) (scored Other 0 None (pos 0)) (other_of m w.other))))

-- ---- errors, by the byte before and this one
-- a pair that code page 949 leaves to its users: the rows C9 and FE of EUC's range
abbrev pub is_user_pair : ℕ → ℕ → Bool
is_user_pair before b = (eqb before 0xC9 || eqb before 0xFE) && is_euc b

-- leads with which MacKorean has symbols besides those of KS X 1001
abbrev pub is_mac_lead : ℕ → Bool
is_mac_lead before = eqb before 0xA1 || (between 0xA3 0xA8 before || between 0xAA 0xAD before)

-- such a symbol: its second byte is no trail byte of code page 949
abbrev pub is_mac_symbol : ℕ → ℕ → Bool
is_mac_symbol before b = between 0x7B 0x7D b && is_mac_lead before

-- single bytes that MacKorean adds: those that are leads of code page 949 too, 81 to 84, and those that are none, 80 and FF
abbrev pub is_extension : ℕ → Bool
is_extension before = between 0x81 0x84 before

abbrev pub is_lone : ℕ → Bool
is_lone b = eqb b 0x80 || eqb b 0xFF

-- an error with one of the former before: it stood alone if ASCII follows, or one of the latter
abbrev pub extends : ℕ → ℕ → Bool
extends before b = is_extension before && (ascii b || is_lone b)

-- an extension that is also a lead, and the byte after it: another extension, a letter, or other ASCII
unfoldable pub extension_of : Scale → ℕ → Scored
extension_of w b =
    cond (is_lone b) (scored Other 0 None (w.extension +ℤ w.extension))
    (cond (letter b) (scored AsciiLetter 0 None w.extension) (scored Other 0 None w.extension))

-- alive, with the record after byte b
abbrev pub after_byte : ℕ → ℕ → Scored → Outcome EucKr
after_byte lead b s = live (record { lead = lead; prev_byte = b; prev_was_euc_range = is_euc b; prev = s.prev; current_word_len = s.word; held = s.held }) s.gain

-- a lead changes nothing else
abbrev pub pending_of : EucKr → ℕ → ℕ → Outcome EucKr
pending_of m lead b = after_byte lead b (scored m.prev m.current_word_len m.held (pos 0))

module _ (w : Scale) (m : EucKr) where
  -- with the byte before an extension, or an extension that is no lead alone, or the machine drops out
  unfoldable pub stray_of : ℕ → ℕ → ℕ → Outcome EucKr
  stray_of lead b length =
      cond (extends m.prev_byte b) (after_byte lead b (extension_of w b))
      (cond (eqb length 1 && is_lone b) (after_byte lead b (scored Other 0 None w.extension)) (none (reason_by m.lead)))

  unfoldable pub error_of : ℕ → ℕ → ℕ → Outcome EucKr
  error_of lead b length =
      cond (is_user_pair m.prev_byte b) (after_byte lead b (hanja_of w m w.pua))
      (cond (is_mac_symbol m.prev_byte b) (after_byte lead b (other_of m w.mac)) (stray_of lead b length))

  -- an event at byte b, with the decoder's lead after it. (The decoder yields no two code points; the Rust would look at the first)
  abbrev pub on_event : List ℤ → ℕ → ℕ → Event → Outcome EucKr
  on_event extras lead b Pending = pending_of m lead b
  on_event extras lead b (Point point) = after_byte lead b (unit_of w extras m point b)
  on_event extras lead b (Two p q) = after_byte lead b (unit_of w extras m p b)
  on_event extras lead b (Error length) = error_of lead b length

-- ---- the machine
pub record Lent : Type 0 where
  pub index : List ℕ
  pub extras : List ℤ
  pub scale : Scale

abbrev pub lent : List ℕ → List ℤ → Scale → Lent
lent index extras scale = record { index = index; extras = extras; scale = scale }

abbrev pub fresh : EucKr
fresh = record { lead = 0; prev_byte = 0; prev_was_euc_range = false; prev = Other; current_word_len = 0; held = None }

unfoldable pub step_of : Lent → EucKr → ℕ → Outcome EucKr
step_of t m b = on_event t.scale m t.extras (decode_of t.index m.lead b).lead b (decode_of t.index m.lead b).event
