-- `grid::run_over` meets its contract. In both loops the state is the one after the bytes passed, all of which were taken.
use Rattle.std.proofs.Common.{ap, ◌∙◌, ◌+◌, arith}
use Rattle.std.specs.Prelude.{Ok}
use Rattle.utf8.specs.GridLaws.{on_start, on_block, on_byte, on_bad, on_done}
use Rattle.utf8.proofs.grid.run_over.Goals as goal

pub loop-at-init : goal.loop-at-init
loop-at-init c = on_start c.requires.1

pub loop-at-preserved : goal.loop-at-preserved
loop-at-preserved c =
    let l = c in
    let at = l.loop-at.at in
    let a = c.after-past.ensures in
    on_block l.loop-at.invariant (at + 16) _ (omega arith) (omega arith) a.0 c.if-past-eq-BAD.false a.1

pub returns-then-past-eq-BAD-2 : goal.returns-then-past-eq-BAD-2
returns-then-past-eq-BAD-2 c = on_bad c.loop-i.invariant c.loop-i-test.true _ c.next-past.ensures c.if-past-eq-BAD-2.true

pub loop-i-preserved : goal.loop-i-preserved
loop-i-preserved c = on_byte c.loop-i.invariant c.loop-i-test.true _ c.next-past.ensures c.if-past-eq-BAD-2.false

pub returns : goal.returns
returns c = ap Ok c.of_state.ensures ∙ on_done c.loop-i.invariant (omega arith)
