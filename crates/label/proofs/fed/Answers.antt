-- `fed` meets its contract.
use Rattle.label.specs.Label.{state_of}
use Rattle.label.proofs.fed.Goals as goal

pub returns : goal.returns
unfolding state_of
returns c = rw (c.classes.ensures, c.marks.ensures, c.pairs.ensures, c.unmapped-big5.ensures, c.unmapped-euckr.ensures, c.unmapped-jis.ensures, c.extras.ensures, c.weights.ensures) at c.over.ensures
