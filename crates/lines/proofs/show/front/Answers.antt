-- `front` meets its contract.
use Rattle.scribe.specs.LentLaws.{with_both}
use Rattle.lines.specs.Show.{front_text}
use Rattle.lines.proofs.show.front.Goals as goal

pub returns : goal.returns
unfolding front_text
returns c = with_both _ _ _ (with_both _ _ _ (with_both _ _ _ (with_both _ _ _ (with_both _ _ _ (with_both _ _ _ c.word.ensures c.saved.ensures) c.flag.ensures) c.count.ensures) c.flag-2.ensures) c.bytes.ensures) c.end_line.ensures
