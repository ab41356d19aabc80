-- `caseless` meets its contract.
use Rattle.scribe.specs.LentLaws.{with_both}
use Rattle.lines.specs.Fields.{caseless_text}
use Rattle.lines.proofs.fields.caseless.Goals as goal

pub returns : goal.returns
unfolding caseless_text
returns c = with_both _ _ _ c.class.ensures c.words.ensures
