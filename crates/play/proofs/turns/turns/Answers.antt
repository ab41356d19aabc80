-- `turns` meets its contract.
use Rattle.std.proofs.Common.{ℕ, refl, subst, ◌∙◌, rules}
use Rattle.play.specs.TurnLaws.{played_none, played_more}
use Rattle.play.specs.Within.{Within}
use Rattle.play.proofs.turns.turns.Goals as goal

pub loop-init : goal.loop-init
loop-init c = (refl, (search rules, played_none _ _ _ refl))

pub returns-then-ne-clause-played : goal.returns-then-ne-clause-played
returns-then-ne-clause-played c = played_more _ _ c.loop.t.state _ _ c.loop.invariant.1.1 c.turn-t.ensures.state_value

pub loop-preserved : goal.loop-preserved
loop-preserved c = (c.turn-t.auto.window ∙ c.loop.invariant.0, (subst (λ (n : ℕ). Within n c.turn-t.result.span) c.loop.invariant.0 c.turn-t.ensures.within, played_more _ _ c.loop.t.state _ _ c.loop.invariant.1.1 c.turn-t.ensures.state_value))
