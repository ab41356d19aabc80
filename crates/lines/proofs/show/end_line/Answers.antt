-- `end_line` meets its contract.
use Rattle.lines.proofs.show.end_line.Goals as goal

pub returns : goal.returns
returns c = c.byte.ensures
