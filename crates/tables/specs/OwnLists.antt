-- One place's own tables, as the definitions read them: the lists behind the references.
use Rattle.tables.specs.Own.{Own, own}
use Rattle.tables.specs.declared.own.Own.{Own as Owns}

abbrev pub own_lists : Owns → Own
own_lists o = own o.classes.now o.marks.now o.pairs.now o.index.now o.extras.now o.weights.now
