-- `dropped` meets its contract.
use Rattle.scribe.specs.LentLaws.{with_both}
use Rattle.lines.specs.Show.{dropped_text}
use Rattle.lines.proofs.show.dropped.Goals as goal

pub returns : goal.returns
unfolding dropped_text
returns c = with_both _ _ _ (with_both _ _ _ (with_both _ _ _ c.word.ensures c.reason.ensures) c.count.ensures) c.end_line.ensures
