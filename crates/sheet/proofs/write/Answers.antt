-- `write` meets its contract.
use Rattle.scribe.specs.LentLaws.{with_both}
use Rattle.sheet.specs.Sheet.{sheet_of}
use Rattle.sheet.proofs.write.Goals as goal

pub returns : goal.returns
unfolding sheet_of
returns c = with_both _ _ _ (with_both _ _ _ (with_both _ _ _ (with_both _ _ _ c.word.ensures c.count_line.ensures) c.count_line-2.ensures) c.place_lines.ensures) (rw c.of.ensures at c.leader_line.ensures)
