-- `answer` meets its contract.
use borrow.Author.Tests.{lt-ltb, le-ltb}
use Rattle.label.specs.Label.{answer_of}
use Rattle.label.proofs.answer.Goals as goal

pub returns-then-label-gt-MOST : goal.returns-then-label-gt-MOST
unfolding answer_of
returns-then-label-gt-MOST c = rw (lt-ltb _ _ c.if-label-gt-MOST.true) c.word.ensures

pub returns-else-label-gt-MOST : goal.returns-else-label-gt-MOST
unfolding answer_of
returns-else-label-gt-MOST c = rw (le-ltb _ _ c.if-label-gt-MOST.false) (rw c.fed.ensures at c.write.ensures)
