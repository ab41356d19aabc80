-- `range` meets its contract.
use borrow.Author.Tests.{eq-eqb, ne_eqb}
use Rattle.scribe.specs.LentLaws.{with_both}
use Rattle.utf8_sheet.specs.Sheet.{range_text}
use Rattle.utf8_sheet.proofs.sheet.range.Goals as goal

pub returns-then-first-last : goal.returns-then-first-last
unfolding range_text
returns-then-first-last c = rw (ne_eqb _ _ c.if-first-last.true) (with_both _ _ _ (with_both _ _ _ c.hex.ensures c.word.ensures) c.hex-then-first-last.ensures)

pub returns-else-first-last : goal.returns-else-first-last
unfolding range_text
returns-else-first-last c = rw (eq-eqb _ _ c.if-first-last.false) c.hex.ensures
