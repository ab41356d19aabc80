-- `place` meets its contract.
use Rattle.scribe.specs.LentLaws.{with_both}
use Rattle.lines.specs.Show.{place_text}
use Rattle.lines.proofs.show.place.Goals as goal

pub returns : goal.returns
unfolding place_text
returns c = with_both _ _ _ (rw c.place_number.ensures at c.place.ensures) c.scored.ensures
