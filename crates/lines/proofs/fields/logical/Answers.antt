-- `logical` meets its contract.
use Rattle.scribe.specs.LentLaws.{with_both}
use Rattle.lines.specs.Fields.{logical_text}
use Rattle.lines.proofs.fields.logical.Goals as goal

pub returns : goal.returns
unfolding logical_text
returns c = with_both _ _ _ (with_both _ _ _ c.class.ensures c.count.ensures) c.words.ensures
