-- `place_line` meets its contract.
use Rattle.scribe.specs.LentLaws.{with_both}
use Rattle.sheet.specs.Sheet.{place_line}
use Rattle.sheet.proofs.place_line.Goals as goal

pub returns : goal.returns
unfolding place_line
returns c = with_both _ _ _ (with_both _ _ _ (with_both _ _ _ c.place.ensures c.byte.ensures) c.score.ensures) c.byte-2.ensures
