use Rattle.play.specs.TurnLaws.{played_none}
use Rattle.play.proofs.turns.round.Goals as goal

pub returns-then-not-span-clause-played : goal.returns-then-not-span-clause-played
returns-then-not-span-clause-played c = played_none _ _ _ c.at.ensures.state_value
