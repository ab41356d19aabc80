-- `hexes` meets its contract.
use Rattle.std.proofs.Common.{sym, ◌∙◌}
use Rattle.scribe.specs.LentLaws.{carried, kept, with_both}
use Rattle.spot.specs.SpotLaws.{hexes_turn, hexes_done}
use Rattle.spot.proofs.hexes.Goals as goal

pub loop-b-preserved : goal.loop-b-preserved
loop-b-preserved c = carried _ _ _ _ (λ s e. hexes_turn _ s _ c.loop-b.b-index c.loop-b-test.true e) (with_both _ _ _ c.byte.ensures c.hex.ensures) ∙ c.loop-b.invariant

pub returns : goal.returns
returns c = sym (kept _ _ (hexes_done _ _ c.loop-b.b-index c.loop-b-test.false)) ∙ c.loop-b.invariant
