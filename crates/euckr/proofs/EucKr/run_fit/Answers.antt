-- `EucKr::run_fit` meets its contract: the loop of `Going`.
use mathlib.Core.Path.{ap, sym, ◌∙◌}
use native.Mathlib.Omega.{arith}
use Rattle.laws.specs.Going.{going_next, going_done}
use Rattle.laws.proofs.Going.{going_none, going_at}
use Rattle.laws.specs.Answer.{answered}
use Rattle.euckr.specs.EucKr.{out_of}
use Rattle.euckr.specs.EucKrLaws.{turn_sound}
use Rattle.euckr.proofs.EucKr.run_fit.Goals as goal

pub returns-in_default-clause-value : goal.returns-in_default-clause-value
returns-in_default-clause-value c =
    let going = c.loop-i.invariant in
    let gave = sym c.step.ensures.result_value ∙ ap (out_of _) c.in_default.is in
    rw (c.reason.ensures, sym (going_at going c.loop-i-test.true gave)) (ap (answered c.loop-i.i) (going_none going c.loop-i-test.true gave))

pub loop-i-preserved : goal.loop-i-preserved
loop-i-preserved c =
    let told = c.in-Some.is in
    let gave = sym c.step.ensures.result_value ∙ ap (out_of _) told in
    going_next c.loop-i.invariant c.loop-i-test.true gave (rw told at c.step.ensures.slight) c.requires.part_len_bound (omega arith) (turn_sound _ c.requires.small_scale _ _ _ _ _ c.loop-i.invariant.sound gave)

pub returns-clause-value : goal.returns-clause-value
returns-clause-value c = rw c.kept.ensures (ap (answered _) (going_done c.loop-i.invariant (omega arith)))
