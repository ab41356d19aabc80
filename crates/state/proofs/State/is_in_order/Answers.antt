-- `is_in_order` meets its contract.
use mathlib.Core.Path.{sym, ◌∙◌}
use Rattle.state.specs.Order.{state_b}
use Rattle.state.proofs.State.is_in_order.Goals as goal

pub returns-then-is_in_order : goal.returns-then-is_in_order
unfolding state_b
returns-then-is_in_order c = rw (sym c.is_in_order.ensures ∙ c.if-is_in_order.true) (rw c.is_triggered-fed.ensures at c.are_in_order.ensures)

pub returns-else-is_in_order : goal.returns-else-is_in_order
unfolding state_b
returns-else-is_in_order c = rw (sym c.is_in_order.ensures ∙ c.if-is_in_order.false) c.if-is_in_order.false
