-- `bytes` meets its contract.
use Rattle.scribe.specs.LentLaws.{with_both}
use Rattle.lines.specs.Show.{bytes_text}
use Rattle.lines.proofs.show.bytes.Goals as goal

pub returns : goal.returns
unfolding bytes_text
returns c = with_both _ _ _ c.count.ensures c.count-2.ensures
