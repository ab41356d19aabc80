-- `visual` meets its contract.
use Rattle.scribe.specs.LentLaws.{with_both}
use Rattle.lines.specs.Fields.{visual_text}
use Rattle.lines.proofs.fields.visual.Goals as goal

pub returns : goal.returns
unfolding visual_text
returns c = with_both _ _ _ (with_both _ _ _ (with_both _ _ _ c.class.ensures c.flag.ensures) c.count.ensures) c.words.ensures
