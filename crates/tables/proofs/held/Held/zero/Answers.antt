-- `zero` meets its contract.
use Rattle.tables.specs.Held.{zeros}
use Rattle.tables.proofs.held.Held.zero.Goals as goal

pub returns : goal.returns
unfolding zeros
returns c = rw (c.zero.ensures, c.zero-2.ensures, c.zero-3.ensures, c.zero-4.ensures)
