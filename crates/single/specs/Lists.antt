-- What is lent, as the definitions read it: the lists behind the references.
use Rattle.single.specs.Lent.{Lent, lent}
use Rattle.single.specs.declared.Lent.{Lent as Lends}

abbrev pub lists : Lends → Lent
lists t = lent t.classes.now t.marks.now t.pairs.now t.weights.now
