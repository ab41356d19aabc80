-- `leader_line` meets its contract.
use Rattle.scribe.specs.LentLaws.{with_both}
use Rattle.sheet.specs.Sheet.{leader_line}
use Rattle.sheet.proofs.leader_line.Goals as goal

pub returns : goal.returns
unfolding leader_line
returns c = with_both _ _ _ (with_both _ _ _ c.word.ensures c.leader_name.ensures) c.byte.ensures
