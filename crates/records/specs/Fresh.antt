-- The test whether a machine is the fresh one of its kind.
use Rattle.std.specs.Prelude.{Bool, true, false, not, ◌&&◌, ℕ, eqb, None, Some, Option, ℤ}
use Rattle.big5.specs.declared.Big5.{Big5 as Big5Record}
use Rattle.big5.specs.declared.LatinCj.{LatinCj}
use Rattle.big5.specs.declared.LatinCj.TheVariants as J
use Rattle.euckr.specs.declared.EucKr.{EucKr as EucKrRecord}
use Rattle.euckr.specs.declared.LatinKorean.{LatinKorean}
use Rattle.euckr.specs.declared.LatinKorean.TheVariants as K
use Rattle.iso2022jp.specs.declared.DecoderState.{DecoderState}
use Rattle.iso2022jp.specs.declared.DecoderState.TheVariants as D
use Rattle.iso2022jp.specs.declared.Iso2022Jp.{Iso2022Jp as Iso2022JpRecord}
use Rattle.iso2022jp.specs.declared.OutputState.{OutputState}
use Rattle.iso2022jp.specs.declared.OutputState.TheVariants as O
use Rattle.arabic_french.specs.declared.ArabicFrench.{ArabicFrench as ArabicFrenchRecord}
use Rattle.arabic_french.specs.declared.LatinCaseState.{LatinCaseState}
use Rattle.arabic_french.specs.declared.LatinCaseState.TheVariants as S
use Rattle.caseless_script.specs.declared.Caseless.{Caseless as CaselessRecord}
use Rattle.logical.specs.declared.Logical.{Logical as LogicalRecord}
use Rattle.visual.specs.declared.Visual.{Visual as VisualRecord}
use Rattle.shift_jis.specs.declared.ShiftJis.{ShiftJis as ShiftJisRecord}
use Rattle.utf8.specs.declared.Utf8.{Utf8 as Utf8Record}
use Rattle.kinds.specs.declared.machine.Machine.{Machine}
use Rattle.kinds.specs.declared.machine.Machine.TheVariants.{Utf8, Iso2022Jp, EucKr, Big5, Caseless, Logical, Visual, ArabicFrench, ShiftJis}

unfoldable pub fresh_utf8_b : Utf8Record → Bool
fresh_utf8_b m = eqb m.need 0 && (eqb m.lo 0x80 && eqb m.hi 0xBF)

abbrev pub ascii_state : DecoderState → Bool
ascii_state D.Ascii = true
ascii_state D.Roman = false
ascii_state D.Katakana = false
ascii_state D.LeadByte = false
ascii_state D.TrailByte = false
ascii_state D.EscapeStart = false
ascii_state D.Escape = false

abbrev pub ascii_out : OutputState → Bool
ascii_out O.Ascii = true
ascii_out O.Roman = false
ascii_out O.Katakana = false
ascii_out O.LeadByte = false

unfoldable pub fresh_iso2022_jp_b : Iso2022JpRecord → Bool
fresh_iso2022_jp_b m = ascii_state m.state && (ascii_out m.out && (eqb m.lead 0 && not m.output))

abbrev pub empty_b : Option ℤ → Bool
empty_b None = true
empty_b (Some s) = false

abbrev pub other_korean : LatinKorean → Bool
other_korean K.Other = true
other_korean K.AsciiLetter = false
other_korean K.Hangul = false
other_korean K.Hanja = false

unfoldable pub fresh_euc_kr_b : EucKrRecord → Bool
fresh_euc_kr_b m =
    other_korean m.prev && (eqb m.lead 0 && (eqb m.prev_byte 0 && (not m.prev_was_euc_range && (eqb m.current_word_len 0 && empty_b m.held))))

abbrev pub other_cj : LatinCj → Bool
other_cj J.Other = true
other_cj J.AsciiLetter = false
other_cj J.Cj = false

unfoldable pub fresh_big5_b : Big5Record → Bool
fresh_big5_b m = other_cj m.prev && (eqb m.lead 0 && (eqb m.prev_byte 0 && empty_b m.held))

-- what the four single-byte machines share
unfoldable pub fresh_common_b : ℕ → Bool → ℕ → ℕ → Bool
fresh_common_b prev prevAscii word longest = eqb prev 0 && (prevAscii && (eqb word 0 && eqb longest 0))

unfoldable pub fresh_caseless_b : CaselessRecord → Bool
fresh_caseless_b m = fresh_common_b m.prev m.prev_ascii m.current_word_len m.longest_word

unfoldable pub fresh_logical_b : LogicalRecord → Bool
fresh_logical_b m = eqb m.plausible_punctuation 0 && fresh_common_b m.prev m.prev_ascii m.current_word_len m.longest_word

unfoldable pub fresh_visual_b : VisualRecord → Bool
fresh_visual_b m =
    eqb m.plausible_punctuation 0 && (not m.prev_punctuation && fresh_common_b m.prev m.prev_ascii m.current_word_len m.longest_word)

abbrev pub space_case : LatinCaseState → Bool
space_case S.Space = true
space_case S.Upper = false
space_case S.Lower = false
space_case S.AllCaps = false

unfoldable pub fresh_arabic_french_b : ArabicFrenchRecord → Bool
fresh_arabic_french_b m = space_case m.case_state && fresh_common_b m.prev m.prev_ascii m.current_word_len m.longest_word

abbrev pub fresh_shift_jis_b : ShiftJisRecord → Bool
fresh_shift_jis_b m = eqb m.lead 0

unfoldable pub fresh_b : Machine → Bool
fresh_b (Utf8 m) = fresh_utf8_b m
fresh_b (Iso2022Jp m) = fresh_iso2022_jp_b m
fresh_b (EucKr m) = fresh_euc_kr_b m
fresh_b (Big5 m) = fresh_big5_b m
fresh_b (Caseless m) = fresh_caseless_b m
fresh_b (Logical m) = fresh_logical_b m
fresh_b (Visual m) = fresh_visual_b m
fresh_b (ArabicFrench m) = fresh_arabic_french_b m
fresh_b (ShiftJis m) = fresh_shift_jis_b m
