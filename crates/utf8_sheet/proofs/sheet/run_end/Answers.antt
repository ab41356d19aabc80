-- `run_end` meets its contract: the run so far can go on over what is left.
use Rattle.std.proofs.Common.{◌≡◌, ◌∙◌, arith, length, subst}
use Rattle.utf8_sheet.specs.LoopLaws.{Ended, run_starts, run_goes_on, run_ends, run_out}
use Rattle.utf8_sheet.proofs.sheet.run_end.Goals as goal

pub loop-end-init : goal.loop-end-init
loop-end-init c = (omega arith, (omega (arith, c.requires), run_starts _ _ c.requires))

pub returns-then-row-end : goal.returns-then-row-end
returns-then-row-end c =
    let i = c.loop-end.invariant in
    record { some = i.0; within = i.1.0; runs = i.1.1 ∙ run_ends _ _ c.loop-end.end _ (omega arith) c.loop-end-test.true c.if-row-end.true }

pub loop-end-preserved : goal.loop-end-preserved
loop-end-preserved c =
    let i = c.loop-end.invariant in
    (omega arith, (omega arith, i.1.1 ∙ run_goes_on _ _ c.loop-end.end _ (omega arith) c.loop-end-test.true c.if-row-end.false))

pub returns : goal.returns
returns c =
    let i = c.loop-end.invariant in
    let e : c.loop-end.end ≡ length c.args.row.now = omega (arith, i.1.0, c.loop-end-test.false) in
    subst (Ended c.args.row.now c.args.from) e (record { some = i.0; within = i.1.0; runs = i.1.1 ∙ run_out _ _ c.loop-end.end _ (omega arith) c.loop-end-test.false })
