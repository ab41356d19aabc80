-- `escaped` meets its contract.
use Rattle.detector.specs.Front.{esc_by}
use Rattle.detector.proofs.front.escaped.Goals as goal

pub returns-in-Earlier : goal.returns-in-Earlier
unfolding esc_by
returns-in-Earlier c = rw c.in-Earlier.is

pub returns-in-Escape : goal.returns-in-Escape
unfolding esc_by
returns-in-Escape c = rw c.in-Escape.is

pub returns-in-NonAscii : goal.returns-in-NonAscii
unfolding esc_by
returns-in-NonAscii c = rw c.in-NonAscii.is

pub returns-in-Nowhere : goal.returns-in-Nowhere
unfolding esc_by
returns-in-Nowhere c = rw c.in-Nowhere.is
