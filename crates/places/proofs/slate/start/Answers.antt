-- `start` meets its contract.
use Rattle.places.specs.Slate.{start_of}
use Rattle.places.proofs.slate.start.Goals as goal

pub returns : goal.returns
unfolding start_of
returns c = rw (c.begun-9.ensures, c.begun-8.ensures, c.begun-7.ensures, c.begun-6.ensures, c.begun-5.ensures, c.begun-4.ensures, c.begun-3.ensures, c.begun-2.ensures, c.begun.ensures)
