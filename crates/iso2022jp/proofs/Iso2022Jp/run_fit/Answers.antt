-- `Iso2022Jp::run_fit` meets its contract: the loop of `Going`.
use Rattle.std.proofs.Common.{refl, ap, sym, ◌∙◌, arith}
use Rattle.laws.specs.Answer.{reached}
use Rattle.laws.specs.Going.{going_still, going_done}
use Rattle.laws.proofs.Going.{going_none, going_at}
use Rattle.iso2022jp.specs.Iso2022Jp.{Passes, out_of}
use Rattle.iso2022jp.specs.Iso2022JpLaws.{step_live}
use Rattle.iso2022jp.proofs.Iso2022Jp.run_fit.Goals as goal

pub loop-i-preserved-then-passes : goal.loop-i-preserved-then-passes
unfolding Passes
loop-i-preserved-then-passes c =
    let going = c.loop-i.invariant in
    going_still going c.loop-i-test.true (c.passes.ensures c.if-passes.true c.args.index.now) (going.sound, refl)

pub returns-in-Err : goal.returns-in-Err
returns-in-Err c =
    let going = c.loop-i.invariant in
    let e = sym c.step.ensures ∙ ap out_of c.in-Err.is in
    rw (sym (going_at going c.loop-i-test.true e)) (ap (reached c.loop-i.i) (going_none going c.loop-i-test.true e))

pub loop-i-preserved : goal.loop-i-preserved
loop-i-preserved c =
    let e = sym c.step.ensures ∙ ap out_of c.in-Ok.is in
    going_still c.loop-i.invariant c.loop-i-test.true e (step_live c.args.index.now _ _ _ _ e)

pub returns : goal.returns
returns c = ap (reached _) (going_done c.loop-i.invariant (omega arith))
