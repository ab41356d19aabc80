-- `read` meets its contract.
use Rattle.std.proofs.Common.{arith, ◌∙◌}
use Rattle.reader.specs.Ways.{read_none, read_start, read_feed, read_show, read_lend, read_bad}
use Rattle.reader.proofs.command.read.Goals as goal

pub returns-in-empty : goal.returns-in-empty
returns-in-empty c = read_none _ (omega arith)

pub returns-in-83 : goal.returns-in-83
returns-in-83 c = c.start.ensures ∙ read_start _ (omega arith) (omega arith)

pub returns-in-70 : goal.returns-in-70
returns-in-70 c = c.feed.ensures ∙ read_feed _ (omega arith) (omega arith)

pub returns-in-81 : goal.returns-in-81
returns-in-81 c = read_show _ (omega arith) (omega arith)

pub returns-in-84 : goal.returns-in-84
returns-in-84 c = read_lend _ (omega arith) (omega arith)

pub returns-in_default : goal.returns-in_default
returns-in_default c = read_bad _ (omega arith) (λ e. omega arith) (λ e. omega arith) (λ e. omega arith) (λ e. omega arith)
