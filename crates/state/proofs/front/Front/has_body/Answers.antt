-- `has_body` meets its contract.
use mathlib.Core.Path.{sym, ◌∙◌}
use borrow.Author.Tests.{le-leb, lt-leb}
use Rattle.state.specs.Order.{body_b}
use Rattle.state.proofs.front.Front.has_body.Goals as goal

pub returns-then-is_triggered : goal.returns-then-is_triggered
unfolding body_b
returns-then-is_triggered c = rw (le-leb _ _ c.if-self.true, sym c.is_triggered.ensures ∙ c.if-is_triggered.true) c.if-is_triggered.true

pub returns-else-is_triggered : goal.returns-else-is_triggered
unfolding body_b
returns-else-is_triggered c = rw (le-leb _ _ c.if-self.true, sym c.is_triggered.ensures ∙ c.if-is_triggered.false)

pub returns-else-self : goal.returns-else-self
unfolding body_b
returns-else-self c = rw (lt-leb _ _ c.if-self.false)
