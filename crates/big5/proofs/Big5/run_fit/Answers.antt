-- `Big5::run_fit` meets its contract: the loop of `Going`.
use Rattle.std.proofs.Common.{ap, sym, ◌∙◌, arith}
use Rattle.laws.specs.Answer.{answered}
use Rattle.laws.specs.Going.{going_next, going_fits, going_done}
use Rattle.laws.proofs.Going.{going_none, going_at}
use Rattle.big5.specs.Big5.{out_of}
use Rattle.big5.proofs.Big5Laws.{turn_within}
use Rattle.big5.proofs.Big5.run_fit.Goals as goal

pub overflow_add-score : goal.overflow_add-score
overflow_add-score c =
    let gave = sym c.step.ensures ∙ ap (out_of _) c.in-Some.is in
    let kept = turn_within _ c.requires.small_scale _ _ _ _ _ c.loop-i.invariant.sound gave in
    going_fits c.loop-i.invariant c.loop-i-test.true gave kept.1 c.requires.part_len_bound (omega arith)

pub returns-in_default-clause-value : goal.returns-in_default-clause-value
returns-in_default-clause-value c =
    let going = c.loop-i.invariant in
    let gave = sym c.step.ensures ∙ ap (out_of _) c.in_default.is in
    rw (c.reason.ensures, sym (going_at going c.loop-i-test.true gave)) (ap (answered c.loop-i.i) (going_none going c.loop-i-test.true gave))

pub loop-i-preserved : goal.loop-i-preserved
loop-i-preserved c =
    let gave = sym c.step.ensures ∙ ap (out_of _) c.in-Some.is in
    let kept = turn_within _ c.requires.small_scale _ _ _ _ _ c.loop-i.invariant.sound gave in
    going_next c.loop-i.invariant c.loop-i-test.true gave kept.1 c.requires.part_len_bound (omega arith) kept.0

pub returns-clause-value : goal.returns-clause-value
returns-clause-value c = ap (answered _) (going_done c.loop-i.invariant (omega arith))
