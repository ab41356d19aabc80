-- `cj` meets its contract.
use Rattle.lines.specs.Names.{cj_name}
use Rattle.lines.proofs.terms.cj.Goals as goal

pub returns-in-AsciiLetter : goal.returns-in-AsciiLetter
unfolding cj_name
returns-in-AsciiLetter c = rw c.in-AsciiLetter.is c.word.ensures

pub returns-in-Cj : goal.returns-in-Cj
unfolding cj_name
returns-in-Cj c = rw c.in-Cj.is c.word-in-Cj.ensures

pub returns-in-Other : goal.returns-in-Other
unfolding cj_name
returns-in-Other c = rw c.in-Other.is c.word-in-Other.ensures
