-- `score` meets its contract.
use mir.Syntax.{w64}
use Rattle.laws.specs.Sizes.{thru}
use Rattle.sheet.specs.Sheet.{score_text}
use borrow.Author.Rules.{rules}
use Rattle.sheet.proofs.score.Goals as goal

pub returns-in-Err : goal.returns-in-Err
unfolding score_text
returns-in-Err c = rw c.in-Err.is c.word.ensures

pub returns-in-Ok : goal.returns-in-Ok
unfolding score_text
returns-in-Ok c =
    rw c.in-Ok.is (rw (thru w64 c.in-Ok.n (record { sfits = search rules })) at c.signed.ensures)
