-- `korean` meets its contract.
use Rattle.lines.specs.Names.{korean_name}
use Rattle.lines.proofs.terms.korean.Goals as goal

pub returns-in-AsciiLetter : goal.returns-in-AsciiLetter
unfolding korean_name
returns-in-AsciiLetter c = rw c.in-AsciiLetter.is c.word.ensures

pub returns-in-Hangul : goal.returns-in-Hangul
unfolding korean_name
returns-in-Hangul c = rw c.in-Hangul.is c.word-in-Hangul.ensures

pub returns-in-Hanja : goal.returns-in-Hanja
unfolding korean_name
returns-in-Hanja c = rw c.in-Hanja.is c.word-in-Hanja.ensures

pub returns-in-Other : goal.returns-in-Other
unfolding korean_name
returns-in-Other c = rw c.in-Other.is c.word-in-Other.ensures
