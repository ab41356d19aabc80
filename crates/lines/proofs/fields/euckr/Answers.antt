-- `euckr` meets its contract.
use Rattle.scribe.specs.LentLaws.{with_both}
use Rattle.lines.specs.Fields.{euckr_text}
use Rattle.lines.proofs.fields.euckr.Goals as goal

pub returns : goal.returns
unfolding euckr_text
returns c = with_both _ _ _ (with_both _ _ _ (with_both _ _ _ (with_both _ _ _ (with_both _ _ _ (with_both _ _ _ c.hex.ensures c.hex-2.ensures) c.flag.ensures) c.word.ensures) c.korean.ensures) c.count.ensures) c.held.ensures
