-- `body_after` meets its contract.
use Rattle.detector.specs.Front.{body_by}
use Rattle.detector.proofs.front.body_after.Goals as goal

pub returns-in-Earlier : goal.returns-in-Earlier
unfolding body_by
returns-in-Earlier c = rw c.in-Earlier.is

pub returns-in-Escape : goal.returns-in-Escape
unfolding body_by
returns-in-Escape c = rw (c.from_offset.ensures, c.in-Escape.is)

pub returns-in-NonAscii : goal.returns-in-NonAscii
unfolding body_by
returns-in-NonAscii c = rw (c.from_offset-in-NonAscii.ensures, c.in-NonAscii.is)

pub returns-in-Nowhere : goal.returns-in-Nowhere
unfolding body_by
returns-in-Nowhere c = rw c.in-Nowhere.is
