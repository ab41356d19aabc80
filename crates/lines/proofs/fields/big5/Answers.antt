-- `big5` meets its contract.
use Rattle.scribe.specs.LentLaws.{with_both}
use Rattle.lines.specs.Fields.{big5_text}
use Rattle.lines.proofs.fields.big5.Goals as goal

pub returns : goal.returns
unfolding big5_text
returns c = with_both _ _ _ (with_both _ _ _ (with_both _ _ _ (with_both _ _ _ c.hex.ensures c.hex-2.ensures) c.word.ensures) c.cj.ensures) c.held.ensures
