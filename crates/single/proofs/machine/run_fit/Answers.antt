-- `run_fit` meets its contract: the loop of `Going`, with what the step before has noted.
use Rattle.std.proofs.Common.{◌≡◌, length, sym, ap, arith}
use Rattle.laws.specs.Answer.{answered}
use Rattle.laws.specs.Going.{going_start, going_next, going_done}
use Rattle.laws.proofs.Going.{going_none, going_at}
use Rattle.single.specs.Lists.{lists}
use Rattle.single.proofs.Steps.{steps_none, steps_some}
use Rattle.single.proofs.machine.run_fit.Goals as goal

pub loop-i-init : goal.loop-i-init
loop-i-init g c =
    let law = g.met.M.SingleByte.starts in
    record { going = rw (law.same c.args.part.now c.args.machine) (going_start c.requires.sound); rests = law.rests (lists c.args.lent.now) c.args.machine }

pub step-requires-clause-sound : goal.step-requires-clause-sound
step-requires-clause-sound g c = g.met.M.SingleByte.sound.more _ _ _ (omega (arith, c.requires.short, c.loop-i-test.true)) c.loop-i.invariant.going.sound

pub returns-in_default-clause-value : goal.returns-in_default-clause-value
returns-in_default-clause-value g c =
    let going = c.loop-i.invariant.going in
    let more = c.loop-i-test.true in
    let s = g.M.SingleByte in
    let gone = steps_none s.step_of s.noted s.Rests (lists c.args.lent.now) c.args.part.now c.loop-i.i c.loop-i.m c.step.result c.step.ensures c.in_default.is in
    rw (sym (going_at going more gone)) (ap (answered c.loop-i.i) (going_none going more gone))

pub loop-i-preserved : goal.loop-i-preserved
loop-i-preserved g c =
    let going = c.loop-i.invariant.going in
    let more = c.loop-i-test.true in
    let s = g.M.SingleByte in
    let gave = steps_some s.step_of s.noted s.Rests (lists c.args.lent.now) c.args.part.now c.loop-i.i c.loop-i.m c.step.result c.step.ensures c.in-Some.is in
    record {
      going = going_next going more gave.0 gave.1.1 c.requires.short (omega arith) (g.met.M.SingleByte.sound.next _ _ _ _ _ _ going.sound gave.0);
      rests = gave.1.0;
    }

pub returns-clause-value : goal.returns-clause-value
returns-clause-value g c =
    let e : c.loop-i.i ≡ length c.args.part.now = omega arith in
    rw (c.noted.ensures, sym e) (ap (answered _) (going_done c.loop-i.invariant.going (omega arith)))
