-- The words of the replay format.
use Rattle.std.specs.Prelude.{List, ℕ}
use Rattle.scribe.specs.Text.{ascii}
use Rattle.big5.specs.declared.LatinCj as cj
use Rattle.euckr.specs.declared.LatinKorean as korean
use Rattle.iso2022jp.specs.declared.DecoderState as decoder
use Rattle.iso2022jp.specs.declared.OutputState as output
use Rattle.arabic_french.specs.declared.LatinCaseState as case

unfoldable pub state_name : decoder.DecoderState → List ℕ
state_name decoder.TheVariants.Ascii = ascii "ascii"
state_name decoder.TheVariants.Roman = ascii "roman"
state_name decoder.TheVariants.Katakana = ascii "katakana"
state_name decoder.TheVariants.LeadByte = ascii "lead"
state_name decoder.TheVariants.TrailByte = ascii "trail"
state_name decoder.TheVariants.EscapeStart = ascii "escape-start"
state_name decoder.TheVariants.Escape = ascii "escape"

unfoldable pub out_name : output.OutputState → List ℕ
out_name output.TheVariants.Ascii = ascii "ascii"
out_name output.TheVariants.Roman = ascii "roman"
out_name output.TheVariants.Katakana = ascii "katakana"
out_name output.TheVariants.LeadByte = ascii "lead"

unfoldable pub korean_name : korean.LatinKorean → List ℕ
korean_name korean.TheVariants.AsciiLetter = ascii "letter"
korean_name korean.TheVariants.Hangul = ascii "hangul"
korean_name korean.TheVariants.Hanja = ascii "hanja"
korean_name korean.TheVariants.Other = ascii "other"

unfoldable pub cj_name : cj.LatinCj → List ℕ
cj_name cj.TheVariants.AsciiLetter = ascii "letter"
cj_name cj.TheVariants.Cj = ascii "cj"
cj_name cj.TheVariants.Other = ascii "other"

unfoldable pub case_name : case.LatinCaseState → List ℕ
case_name case.TheVariants.Space = ascii "space"
case_name case.TheVariants.Upper = ascii "upper"
case_name case.TheVariants.Lower = ascii "lower"
case_name case.TheVariants.AllCaps = ascii "caps"
