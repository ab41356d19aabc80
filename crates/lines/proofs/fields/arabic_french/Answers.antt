-- `arabic_french` meets its contract.
use Rattle.scribe.specs.LentLaws.{with_both}
use Rattle.lines.specs.Fields.{arabic_french_text}
use Rattle.lines.proofs.fields.arabic_french.Goals as goal

pub returns : goal.returns
unfolding arabic_french_text
returns c = with_both _ _ _ (with_both _ _ _ (with_both _ _ _ c.class.ensures c.word.ensures) c.case.ensures) c.words.ensures
