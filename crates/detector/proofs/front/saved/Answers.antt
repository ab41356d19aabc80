-- `saved` meets its contract.
use Rattle.detector.specs.Front.{context_by}
use Rattle.detector.proofs.front.saved.Goals as goal

pub returns-in-Earlier : goal.returns-in-Earlier
unfolding context_by
returns-in-Earlier c = rw c.in-Earlier.is

pub returns-in-Escape : goal.returns-in-Escape
unfolding context_by
returns-in-Escape c = rw (c.context_at.ensures, c.in-Escape.is)

pub returns-in-NonAscii : goal.returns-in-NonAscii
unfolding context_by
returns-in-NonAscii c = rw (c.context_at-in-NonAscii.ensures, c.in-NonAscii.is)

pub returns-in-Nowhere : goal.returns-in-Nowhere
unfolding context_by
returns-in-Nowhere c = rw (c.push.ensures, c.in-Nowhere.is)
