-- A machine's record as text: the fields of its line after the score.
use Rattle.std.specs.Prelude.{Bool, List, ◌++◌, ℕ, None, Some, Option, ℤ}
use Rattle.scribe.specs.Text.{ascii, flag_of, hex_of, decimal_of, signed_of}
use Rattle.utf8.specs.declared.Utf8.{Utf8}
use Rattle.iso2022jp.specs.declared.Iso2022Jp.{Iso2022Jp}
use Rattle.euckr.specs.declared.EucKr.{EucKr}
use Rattle.big5.specs.declared.Big5.{Big5}
use Rattle.caseless_script.specs.declared.Caseless.{Caseless}
use Rattle.logical.specs.declared.Logical.{Logical}
use Rattle.visual.specs.declared.Visual.{Visual}
use Rattle.arabic_french.specs.declared.ArabicFrench.{ArabicFrench}
use Rattle.shift_jis.specs.declared.ShiftJis.{ShiftJis}
use Rattle.lines.specs.Names.{state_name, out_name, korean_name, cj_name, case_name}

unfoldable pub held_text : Option ℤ → List ℕ
held_text None = ascii "none"
held_text (Some z) = signed_of z

unfoldable pub utf8_text : Utf8 → List ℕ
utf8_text m =
    (ascii " need=" ++ decimal_of m.need)
    ++ (ascii " lo=" ++ hex_of m.lo)
    ++ (ascii " hi=" ++ hex_of m.hi)

unfoldable pub iso2022jp_text : Iso2022Jp → List ℕ
iso2022jp_text m =
    ascii " state="
    ++ state_name m.state
    ++ ascii " out="
    ++ out_name m.out
    ++ (ascii " lead=" ++ hex_of m.lead)
    ++ (ascii " output=" ++ flag_of m.output)

unfoldable pub euckr_text : EucKr → List ℕ
euckr_text m =
    (ascii " lead=" ++ hex_of m.lead)
    ++ (ascii " byte=" ++ hex_of m.prev_byte)
    ++ (ascii " euc=" ++ flag_of m.prev_was_euc_range)
    ++ ascii " prev="
    ++ korean_name m.prev
    ++ (ascii " word=" ++ decimal_of m.current_word_len)
    ++ (ascii " held=" ++ held_text m.held)

unfoldable pub big5_text : Big5 → List ℕ
big5_text m =
    (ascii " lead=" ++ hex_of m.lead)
    ++ (ascii " byte=" ++ hex_of m.prev_byte)
    ++ ascii " prev="
    ++ cj_name m.prev
    ++ (ascii " held=" ++ held_text m.held)

-- what every single-byte machine's line begins and ends with
unfoldable pub class_text : ℕ → Bool → List ℕ
class_text prev asciiByte = (ascii " prev=" ++ decimal_of prev) ++ (ascii " ascii=" ++ flag_of asciiByte)

unfoldable pub words_text : ℕ → ℕ → List ℕ
words_text current longest = (ascii " word=" ++ decimal_of current) ++ (ascii " longest=" ++ decimal_of longest)

unfoldable pub caseless_text : Caseless → List ℕ
caseless_text m = class_text m.prev m.prev_ascii ++ words_text m.current_word_len m.longest_word

unfoldable pub logical_text : Logical → List ℕ
logical_text m =
    class_text m.prev m.prev_ascii
    ++ (ascii " punct=" ++ decimal_of m.plausible_punctuation)
    ++ words_text m.current_word_len m.longest_word

unfoldable pub visual_text : Visual → List ℕ
visual_text m =
    class_text m.prev m.prev_ascii
    ++ (ascii " prevpunct=" ++ flag_of m.prev_punctuation)
    ++ (ascii " punct=" ++ decimal_of m.plausible_punctuation)
    ++ words_text m.current_word_len m.longest_word

unfoldable pub arabic_french_text : ArabicFrench → List ℕ
arabic_french_text m =
    class_text m.prev m.prev_ascii
    ++ ascii " case="
    ++ case_name m.case_state
    ++ words_text m.current_word_len m.longest_word

unfoldable pub shift_jis_text : ShiftJis → List ℕ
shift_jis_text m = ascii " lead=" ++ hex_of m.lead
