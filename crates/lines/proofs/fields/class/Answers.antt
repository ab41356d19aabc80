-- `class` meets its contract.
use Rattle.scribe.specs.LentLaws.{with_both}
use Rattle.lines.specs.Fields.{class_text}
use Rattle.lines.proofs.fields.class.Goals as goal

pub returns : goal.returns
unfolding class_text
returns c = with_both _ _ _ (rw c.from.ensures at c.count.ensures) c.flag.ensures
