-- `start` meets its contract.
use borrow.Author.Tests.{lt-ltb, le-ltb}
use Rattle.state.specs.State.{started_of}
use Rattle.state.proofs.start.Goals as goal

pub returns-then-bits-lt-FIRST_UNNAMED : goal.returns-then-bits-lt-FIRST_UNNAMED
unfolding started_of
returns-then-bits-lt-FIRST_UNNAMED c = rw (c.begun.ensures, lt-ltb _ _ c.if-bits-lt-FIRST_UNNAMED.true)

pub returns : goal.returns
unfolding started_of
returns c = rw (c.begun-2.ensures, le-ltb _ _ c.if-bits-lt-FIRST_UNNAMED.false)
