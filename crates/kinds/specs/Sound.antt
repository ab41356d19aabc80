-- What a machine can hold after n bytes. The closing space can lengthen a word and, in visual order, count punctuation: these
-- are bounded by `reach`, which has the space besides, and all else by n.
use Rattle.std.specs.Prelude.{Bool, true, false, cond, ◌&&◌, ℕ, ◌+◌, ◌≤◌, leb}
use Rattle.big5.specs.Big5 as big5
use Rattle.euckr.specs.EucKr as euckr
use Rattle.iso2022jp.specs.Iso2022Jp as iso2022jp
use Rattle.arabic_french.specs.ArabicFrench as arabic_french
use Rattle.caseless_script.specs.Caseless as caseless
use Rattle.logical.specs.Logical as logical
use Rattle.visual.specs.Visual as visual
use Rattle.logical.specs.declared.Logical.{Logical as LogicalRecord}
use Rattle.shift_jis.specs.ShiftJis as shiftJis
use Rattle.utf8.specs.Utf8 as utf-8
use Rattle.kinds.specs.declared.machine.Machine.{Machine}
use Rattle.kinds.specs.declared.machine.Machine.TheVariants.{Utf8, Iso2022Jp, EucKr, Big5, Caseless, Logical, Visual, ArabicFrench, ShiftJis}

-- the end of the stream is a space to it, one byte more
abbrev pub takes_space : Machine → Bool
takes_space (Utf8 m) = false
takes_space (Iso2022Jp m) = false
takes_space (EucKr m) = false
takes_space (Big5 m) = false
takes_space (Caseless m) = true
takes_space (Logical m) = true
takes_space (Visual m) = true
takes_space (ArabicFrench m) = true
takes_space (ShiftJis m) = false

-- the bytes that it has seen at most, of a stream of n that is closed or not
unfoldable pub reach_of : Machine → ℕ → Bool → ℕ
reach_of m n closed = cond (closed && takes_space m) (n + 1) n

abbrev pub SoundFor : ℕ → ℕ → Machine → Type 0
SoundFor n reach (Utf8 m) = utf-8.Sound m
SoundFor n reach (Iso2022Jp m) = iso2022jp.Sound m
SoundFor n reach (EucKr m) = euckr.Sound n m
SoundFor n reach (Big5 m) = big5.Sound n m
SoundFor n reach (Caseless m) = (m.longest_word ≤ n) × caseless.Sound reach m
SoundFor n reach (Logical m) = (m.plausible_punctuation ≤ n) × ((m.longest_word ≤ n) × logical.Sound reach m)
SoundFor n reach (Visual m) = (m.longest_word ≤ n) × visual.Sound reach m
SoundFor n reach (ArabicFrench m) = (m.longest_word ≤ n) × arabic_french.Sound reach m
SoundFor n reach (ShiftJis m) = shiftJis.Sound m

unfoldable pub sound_logical_b : ℕ → ℕ → LogicalRecord → Bool
sound_logical_b n reach m = leb m.plausible_punctuation n && (leb m.longest_word n && logical.sound_b reach m)

unfoldable pub sound_b : ℕ → ℕ → Machine → Bool
sound_b n reach (Utf8 m) = utf-8.sound_b m
sound_b n reach (Iso2022Jp m) = iso2022jp.sound_b m
sound_b n reach (EucKr m) = euckr.sound_b n m
sound_b n reach (Big5 m) = big5.sound_b n m
sound_b n reach (Caseless m) = leb m.longest_word n && caseless.sound_b reach m
sound_b n reach (Logical m) = sound_logical_b n reach m
sound_b n reach (Visual m) = leb m.longest_word n && visual.sound_b reach m
sound_b n reach (ArabicFrench m) = leb m.longest_word n && arabic_french.sound_b reach m
sound_b n reach (ShiftJis m) = shiftJis.sound_b m
