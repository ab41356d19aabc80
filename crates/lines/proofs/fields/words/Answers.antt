-- `words` meets its contract.
use Rattle.scribe.specs.LentLaws.{with_both}
use Rattle.lines.specs.Fields.{words_text}
use Rattle.lines.proofs.fields.words.Goals as goal

pub returns : goal.returns
unfolding words_text
returns c = with_both _ _ _ c.count.ensures c.count-2.ensures
