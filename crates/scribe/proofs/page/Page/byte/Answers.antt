-- `byte` meets its contract.
use Rattle.std.proofs.Common.{ap, ◌∙◌}
use Rattle.scribe.specs.Lent.{holding}
use Rattle.scribe.specs.PageLaws.{room, full, onto_one}
use Rattle.scribe.proofs.page.Page.byte.Goals as goal

pub returns-then-self : goal.returns-then-self
returns-then-self c = ap (holding c.args.self.now) (room _ _ c.args.b c.if-self.true ∙ onto_one _ _)

pub returns-else-self : goal.returns-else-self
returns-else-self c = ap (holding c.args.self.now) (full _ _ c.args.b c.if-self.false ∙ onto_one _ _)
