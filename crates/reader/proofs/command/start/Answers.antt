-- `start` meets its contract.
use borrow.Author.Tests.{lt-ltb, le-ltb}
use Rattle.reader.specs.Command.{start_read}
use Rattle.reader.proofs.command.start.Goals as goal

pub returns-then-bytes-lt3 : goal.returns-then-bytes-lt3
unfolding start_read
returns-then-bytes-lt3 c = simp (lt-ltb _ _ c.if-bytes-lt3.true)

pub returns : goal.returns
unfolding start_read
returns c = simp (le-ltb _ _ c.if-bytes-lt3.false, c.at.ensures)
