-- `is_triggerless` meets its contract.
use borrow.Author.Tests.{eq-eqb, ne_eqb}
use Rattle.state.specs.Order.{triggerless_b}
use Rattle.state.proofs.front.is_triggerless.Goals as goal

pub returns-then-b-ne27 : goal.returns-then-b-ne27
unfolding triggerless_b
returns-then-b-ne27 c = rw (c.is_non_ascii.ensures, ne_eqb _ _ c.if-b-ne27.true)

pub returns-else-b-ne27 : goal.returns-else-b-ne27
unfolding triggerless_b
returns-else-b-ne27 c = rw (eq-eqb _ _ c.if-b-ne27.false)
