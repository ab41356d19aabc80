-- `flag` meets its contract.
use Rattle.scribe.specs.Text.{flag_of}
use Rattle.scribe.proofs.page.Page.flag.Goals as goal

pub returns-then-f : goal.returns-then-f
unfolding flag_of
returns-then-f c = rw c.if-f.true c.byte.ensures

pub returns-else-f : goal.returns-else-f
unfolding flag_of
returns-else-f c = rw c.if-f.false c.byte-else-f.ensures
