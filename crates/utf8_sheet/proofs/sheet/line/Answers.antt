-- `line` meets its contract.
use Rattle.scribe.specs.LentLaws.{with_both}
use Rattle.utf8_sheet.specs.Sheet.{line_of}
use Rattle.utf8_sheet.proofs.sheet.line.Goals as goal

pub returns : goal.returns
unfolding line_of
returns c = with_both _ _ _ (with_both _ _ _ (with_both _ _ _ c.range.ensures c.byte.ensures) (rw c.from.ensures at c.decimal.ensures)) c.byte-2.ensures
