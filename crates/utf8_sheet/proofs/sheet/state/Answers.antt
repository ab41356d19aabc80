-- `state` meets its contract.
use Rattle.scribe.specs.LentLaws.{with_both}
use Rattle.utf8_sheet.specs.Sheet.{state_text}
use Rattle.utf8_sheet.proofs.sheet.state.Goals as goal

pub returns : goal.returns
unfolding state_text
returns c = with_both _ _ _ (with_both _ _ _ (with_both _ _ _ c.word.ensures c.decimal.ensures) c.byte.ensures) c.lines.ensures
