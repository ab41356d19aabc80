-- `is_in_order` meets its contract.
use mathlib.Core.Path.{sym, ◌∙◌}
use borrow.Author.Tests.{le-leb, lt-leb}
use Rattle.state.specs.Order.{front_b}
use Rattle.state.proofs.front.Front.is_in_order.Goals as goal

pub returns-then-has_body : goal.returns-then-has_body
unfolding front_b
returns-then-has_body c = rw (le-leb _ _ c.if-self-le-LIMIT.true, le-leb _ _ c.if-self.true, le-leb _ _ c.if-context-self.true, sym c.has_body.ensures ∙ c.if-has_body.true) c.is_saved.ensures

pub returns-else-has_body : goal.returns-else-has_body
unfolding front_b
returns-else-has_body c = rw (le-leb _ _ c.if-self-le-LIMIT.true, le-leb _ _ c.if-self.true, le-leb _ _ c.if-context-self.true, sym c.has_body.ensures ∙ c.if-has_body.false) c.if-has_body.false

pub returns-else-context-self : goal.returns-else-context-self
unfolding front_b
returns-else-context-self c = rw (le-leb _ _ c.if-self-le-LIMIT.true, le-leb _ _ c.if-self.true, lt-leb _ _ c.if-context-self.false)

pub returns-else-self : goal.returns-else-self
unfolding front_b
returns-else-self c = rw (le-leb _ _ c.if-self-le-LIMIT.true, lt-leb _ _ c.if-self.false)

pub returns-else-self-le-LIMIT : goal.returns-else-self-le-LIMIT
unfolding front_b
returns-else-self-le-LIMIT c = rw (lt-leb _ _ c.if-self-le-LIMIT.false)
