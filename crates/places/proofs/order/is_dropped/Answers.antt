-- `is_dropped` meets its contract.
use Rattle.places.specs.Order.{dropped_b}
use Rattle.places.proofs.order.is_dropped.Goals as goal

pub returns-in-Class255 : goal.returns-in-Class255
unfolding dropped_b
returns-in-Class255 c = rw (c.in-Class255.is, c.is_single.ensures, c.is_within.ensures)

pub returns-in-BadByte : goal.returns-in-BadByte
unfolding dropped_b
returns-in-BadByte c = rw (c.in-BadByte.is, c.is_single-in-BadByte.ensures)

pub returns-in-BadSecondByte : goal.returns-in-BadSecondByte
unfolding dropped_b
returns-in-BadSecondByte c = rw c.in-BadSecondByte.is

pub returns-in-BrokenEscape : goal.returns-in-BrokenEscape
unfolding dropped_b
returns-in-BrokenEscape c = rw c.in-BrokenEscape.is

pub returns-in-CutAtClose : goal.returns-in-CutAtClose
unfolding dropped_b
returns-in-CutAtClose c = rw (c.in-CutAtClose.is, c.is_single-in-CutAtClose.ensures)

pub returns-in-NotInSlate : goal.returns-in-NotInSlate
unfolding dropped_b
returns-in-NotInSlate c = rw c.in-NotInSlate.is
