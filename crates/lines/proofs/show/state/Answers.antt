-- `state` meets its contract.
use Rattle.scribe.specs.LentLaws.{with_both}
use Rattle.lines.specs.Show.{state_text}
use Rattle.lines.proofs.show.state.Goals as goal

pub returns : goal.returns
unfolding state_text
returns c = with_both _ _ _ (with_both _ _ _ c.front.ensures c.places.ensures) (rw c.of.ensures at c.leader_line.ensures)
