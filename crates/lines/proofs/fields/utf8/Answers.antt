-- `utf8` meets its contract.
use Rattle.scribe.specs.LentLaws.{with_both}
use Rattle.lines.specs.Fields.{utf8_text}
use Rattle.lines.proofs.fields.utf8.Goals as goal

pub returns : goal.returns
unfolding utf8_text
returns c = with_both _ _ _ (with_both _ _ _ (rw c.from.ensures at c.count.ensures) c.hex.ensures) c.hex-2.ensures
