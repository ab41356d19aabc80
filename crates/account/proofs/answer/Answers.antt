-- `answer` meets its contract.
use borrow.Author.Tests.{lt-ltb, le-ltb}
use Rattle.account.specs.Account.{answer_of}
use Rattle.account.proofs.answer.Goals as goal

pub returns-then-file-gt-MOST : goal.returns-then-file-gt-MOST
unfolding answer_of
returns-then-file-gt-MOST c = rw (lt-ltb _ _ c.if-file-gt-MOST.true) c.word.ensures

pub returns-else-file-gt-MOST : goal.returns-else-file-gt-MOST
unfolding answer_of
returns-else-file-gt-MOST c = rw (le-ltb _ _ c.if-file-gt-MOST.false) (rw c.fed.ensures at c.write.ensures)
