-- `ShiftJis::run_fit` meets its contract: the loop of `Going`.
use Rattle.std.proofs.Common.{ap, sym, ◌∙◌, arith}
use Rattle.laws.specs.Answer.{reached}
use Rattle.laws.specs.Going.{going_still, going_done}
use Rattle.laws.proofs.Going.{going_none, going_at}
use Rattle.shift_jis.specs.ShiftJis.{out_of}
use Rattle.shift_jis.specs.ShiftJisLaws.{step_live}
use Rattle.shift_jis.proofs.ShiftJis.run_fit.Goals as goal

pub returns-in_default : goal.returns-in_default
returns-in_default c =
    let going = c.loop-i.invariant in
    let e = sym c.step.ensures ∙ ap out_of c.in_default.is in
    rw (sym (going_at going c.loop-i-test.true e)) (ap (reached c.loop-i.i) (going_none going c.loop-i-test.true e))

pub loop-i-preserved : goal.loop-i-preserved
loop-i-preserved c =
    let e = sym c.step.ensures ∙ ap out_of c.in-Some.is in
    going_still c.loop-i.invariant c.loop-i-test.true e (step_live c.args.index.now _ _ _ _ e)

pub returns : goal.returns
returns c = ap (reached _) (going_done c.loop-i.invariant (omega arith))
