-- `close` meets its contract: a run over a space.
use Rattle.std.proofs.Common.{◌∙◌}
use Rattle.laws.specs.Limit.{room}
use Rattle.single.specs.AnswersLaws.{ran_space}
use Rattle.single.specs.Lists.{lists}
use Rattle.single.proofs.machine.close.Goals as goal

pub returns-clause-value : goal.returns-clause-value
returns-clause-value g c =
    c.run.ensures.value ∙ ran_space g.M.SingleByte.step_of (g.M.SingleByte.sound_b room) (lists c.args.lent.now) c.args.machine
