-- `is_saved` meets its contract.
use mathlib.Core.Path.{sym, ◌∙◌}
use borrow.Author.Tests.{le-leb, lt-leb, lt-ltb, le-ltb, ne_eqb}
use Rattle.state.specs.Order.{saved_b}
use Rattle.state.proofs.front.is_saved.Goals as goal

pub returns-then-len-gt-MOST : goal.returns-then-len-gt-MOST
unfolding saved_b
returns-then-len-gt-MOST c = rw (lt-leb _ _ c.if-len-gt-MOST.true)

pub returns-then-len-eq0 : goal.returns-then-len-eq0
unfolding saved_b
returns-then-len-eq0 c = rw c.if-len-eq0.true

pub returns-then-len-lt2 : goal.returns-then-len-lt2
unfolding saved_b
returns-then-len-lt2 c = rw (le-leb _ _ c.if-len-gt-MOST.false, ne_eqb _ _ c.if-len-eq0.false, sym c.is_triggerless.ensures ∙ c.if-is_triggerless.true, lt-ltb _ _ c.if-len-lt2.true)

pub returns-else-len-lt2 : goal.returns-else-len-lt2
unfolding saved_b
returns-else-len-lt2 c = rw (le-leb _ _ c.if-len-gt-MOST.false, ne_eqb _ _ c.if-len-eq0.false, sym c.is_triggerless.ensures ∙ c.if-is_triggerless.true, le-ltb _ _ c.if-len-lt2.false) c.is_triggerless-else-len-lt2.ensures

pub returns-else-is_triggerless : goal.returns-else-is_triggerless
unfolding saved_b
returns-else-is_triggerless c = rw (le-leb _ _ c.if-len-gt-MOST.false, ne_eqb _ _ c.if-len-eq0.false, sym c.is_triggerless.ensures ∙ c.if-is_triggerless.false) c.if-is_triggerless.false
