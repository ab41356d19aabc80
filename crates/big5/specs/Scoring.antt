-- How Big5 is scored: what each event does to the kind before, the held score and the score.
use Rattle.std.specs.Prelude.{Bool, true, false, cond, not, ◌&&◌, ◌||◌, List, [], ◌∷◌, ℕ, ltb, eqb, ℤ, pos, ◌+ℤ◌, Option, Some, None}
use Rattle.laws.specs.Lists.{is_in}
use Rattle.laws.specs.Run.{Outcome, none, live}
use Rattle.octets.specs.Octets.{between, ascii, letter}
use Rattle.pairs.specs.Pairs.{is_lead, is_held_lead, reason_by, released_of}
use Rattle.pairs.specs.declared.Event.{Event}
use Rattle.pairs.specs.declared.Event.TheVariants.{Pending, Point, Two, Error}
use Rattle.weights.specs.Weights.{weight_of, cjk_latin_adjacency, cj_punctuation, cjk_other, big5_level1, big5_other, big5_pua, big5_extension}
use Rattle.big5_decoder.specs.Standard.{is_trail, decode_of}
use Rattle.big5.specs.declared.Big5.{Big5}
use Rattle.big5.specs.declared.LatinCj.{LatinCj}
use Rattle.big5.specs.declared.LatinCj.TheVariants.{AsciiLetter, Cj, Other}
use Rattle.big5.specs.declared.Scale.{Scale}
use Rattle.big5.specs.declared.Scored.{Scored}

-- the lent weights that Big5 uses, by name
unfoldable pub scale_of : List ℤ → Scale
scale_of weights =
    record { adjacency = weight_of weights cjk_latin_adjacency; punctuation = weight_of weights cj_punctuation; other = weight_of weights cjk_other; level1 = weight_of weights big5_level1; hanzi = weight_of weights big5_other; pua = weight_of weights big5_pua; extension = weight_of weights big5_extension }

-- ---- units
-- Hanzi: from extension A to the end of the unified ones, and the compatibility ones
abbrev pub is_hanzi : ℕ → Bool
is_hanzi u = between 0x3400 0x9FFF u || between 0xF900 0xFAFF u

-- full-width punctuation: what Korean text has otherwise (space, enumeration comma, full stop, parentheses), then what Japanese
-- text has otherwise (exclamation mark, comma, semicolon, question mark)
abbrev pub distinct : List ℕ
distinct = 0x3000 ∷ 0x3001 ∷ 0x3002 ∷ 0xFF08 ∷ 0xFF09 ∷ 0xFF01 ∷ 0xFF0C ∷ 0xFF1B ∷ 0xFF1F ∷ []

abbrev pub is_distinct : ℕ → Bool
is_distinct u = is_in distinct u

-- ---- kinds
abbrev pub is_cj : LatinCj → Bool
is_cj AsciiLetter = false
is_cj Cj = true
is_cj Other = false

-- what a Hanzi adds after this kind: a letter beside it
abbrev pub beside_of : Scale → LatinCj → ℤ
beside_of w AsciiLetter = w.adjacency
beside_of w Cj = pos 0
beside_of w Other = pos 0

-- what a letter adds after this kind: a Hanzi beside it
abbrev pub beside_hanzi : Scale → LatinCj → ℤ
beside_hanzi w AsciiLetter = pos 0
beside_hanzi w Cj = w.adjacency
beside_hanzi w Other = pos 0

-- the kind, what is held, and the score's change after a byte
abbrev pub scored : LatinCj → Option ℤ → ℤ → Scored
scored prev held gain = record { prev = prev; held = held; gain = gain }

-- the score of a Hanzi waits for what follows
unfoldable pub holds_of : Big5 → Bool
holds_of m = not (is_cj m.prev) && is_held_lead m.prev_byte

-- the byte before is the Hanzi's lead; level 1, the Hanzi in frequent use, has the leads A4 to C6
unfoldable pub hanzi_weight : Scale → ℕ → ℤ
hanzi_weight w byte = cond (between 0xA4 0xC6 byte) w.level1 w.hanzi

module _ (w : Scale) (m : Big5) where
  -- a letter discards what is held
  unfoldable pub letter_of : Scored
  letter_of = scored AsciiLetter None (beside_hanzi w m.prev)

  -- a Hanzi releases what is held; its own score is added, or held in turn
  unfoldable pub hanzi_of : ℤ → Scored
  hanzi_of own =
      cond (holds_of m)
      (scored Cj (Some own) (released_of m.held +ℤ beside_of w m.prev))
      (scored Cj None (released_of m.held +ℤ beside_of w m.prev +ℤ own))

-- anything else that is not ASCII releases what is held
unfoldable pub other_of : Big5 → ℤ → Scored
other_of m own = scored Other None (released_of m.held +ℤ own)

module _ (w : Scale) (m : Big5) where
  -- one unit, in the Rust's order
  unfoldable pub unit_of : ℕ → Scored
  unit_of u =
      cond (letter u) (letter_of w m)
      (cond (is_hanzi u) (hanzi_of w m (hanzi_weight w m.prev_byte))
      (cond (is_distinct u) (other_of m w.punctuation)
      (cond (ascii u) (scored Other None (pos 0)) (other_of m w.other))))

  -- a code point: one unit of UTF-16; or two, which is a Hanzi: of plane two the Standard's index has only Hong Kong's
  unfoldable pub point_of : ℕ → Scored
  point_of point = cond (ltb point 0x10000) (unit_of point) (hanzi_of w m w.hanzi)

  -- a pair in Big5's range that is not mapped: private use, where other extensions (Big5-UAO is one) have characters, so that text
  -- with such is not dropped. It does what a Hanzi does
  unfoldable pub unmapped_of : Scored
  unmapped_of = scored Cj None (released_of m.held +ℤ w.pua +ℤ beside_of w m.prev)

-- a single-byte extension that is also a lead, and the byte after it: a letter, the extension FF, or other ASCII
unfoldable pub extension_of : Scale → ℕ → Scored
extension_of w b =
    cond (eqb b 0xFF) (scored Other None (w.extension +ℤ w.extension))
    (cond (letter b) (scored AsciiLetter None w.extension) (scored Other None w.extension))

-- ---- errors, by the byte before and this one
-- a pair in Big5's range, mapped or not
abbrev pub is_pair : ℕ → ℕ → Bool
is_pair before b = is_lead before && is_trail b

-- single bytes of Mac OS Chinese Traditional that are leads of Big5 too; FF is another, and no lead
abbrev pub extensions : List ℕ
extensions = 0xA0 ∷ 0xFD ∷ 0xFE ∷ []

abbrev pub is_extension : ℕ → Bool
is_extension before = is_in extensions before

-- an error with such a byte before: it stood alone if ASCII follows, or FF
abbrev pub extends : ℕ → ℕ → Bool
extends before b = is_extension before && (ascii b || eqb b 0xFF)

-- alive, with the record after byte b
abbrev pub after_byte : ℕ → ℕ → Scored → Outcome Big5
after_byte lead b s = live (record { lead = lead; prev = s.prev; prev_byte = b; held = s.held }) s.gain

module _ (w : Scale) (m : Big5) where
  -- an error that is no pair in range: with the byte before an extension, or the extension FF alone, or the machine drops out
  unfoldable pub stray_of : ℕ → ℕ → ℕ → Outcome Big5
  stray_of lead b length =
      cond (extends m.prev_byte b) (after_byte lead b (extension_of w b))
      (cond (eqb length 1 && eqb b 0xFF) (after_byte lead b (scored Other None w.extension)) (none (reason_by m.lead)))

  unfoldable pub error_of : ℕ → ℕ → ℕ → Outcome Big5
  error_of lead b length = cond (is_pair m.prev_byte b) (after_byte lead b (unmapped_of w m)) (stray_of lead b length)

  -- an event at byte b, with the decoder's lead after it. What is two code points is a letter with an accent, and no Hanzi
  abbrev pub on_event : ℕ → ℕ → Event → Outcome Big5
  on_event lead b Pending = after_byte lead b (scored m.prev m.held (pos 0))
  on_event lead b (Point point) = after_byte lead b (point_of w m point)
  on_event lead b (Two p q) = after_byte lead b (other_of m w.other)
  on_event lead b (Error length) = error_of lead b length

-- ---- the machine
pub record Lent : Type 0 where
  pub index : List ℕ
  pub scale : Scale

abbrev pub lent : List ℕ → Scale → Lent
lent index scale = record { index = index; scale = scale }

abbrev pub fresh : Big5
fresh = record { lead = 0; prev = Other; prev_byte = 0; held = None }

unfoldable pub step_of : Lent → Big5 → ℕ → Outcome Big5
step_of t m b = on_event t.scale m (decode_of t.index m.lead b).lead b (decode_of t.index m.lead b).event
