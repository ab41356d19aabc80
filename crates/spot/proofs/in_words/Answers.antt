-- `in_words` meets its contract.
use Rattle.std.proofs.Common.{sym, ◌∙◌}
use Rattle.scribe.specs.LentLaws.{carried, kept}
use Rattle.scribe.specs.PageLaws.{onto_one}
use Rattle.spot.specs.SpotLaws.{spaced_turn, spaced_done}
use Rattle.spot.proofs.in_words.Goals as goal

pub loop-b-preserved : goal.loop-b-preserved
loop-b-preserved c = carried _ _ _ _ (λ s e. spaced_turn _ s _ c.loop-b.b-index c.loop-b-test.true (e ∙ sym (onto_one _ _))) (rw c.apart.ensures at c.byte.ensures) ∙ c.loop-b.invariant

pub returns : goal.returns
returns c = sym (kept _ _ (spaced_done _ _ c.loop-b.b-index c.loop-b-test.false)) ∙ c.loop-b.invariant
