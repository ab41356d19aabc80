-- What is lent, as the definitions read it: the lists behind the references.
use Rattle.tables.specs.Tables.{Single, Tables, single, tables}
use Rattle.tables.specs.declared.Single.{Single as LentSingle}
use Rattle.tables.specs.declared.Tables.{Tables as LentTables}

abbrev pub single_lists : LentSingle → Single
single_lists s = single s.classes.now s.marks.now s.pairs.now

abbrev pub lists : LentTables → Tables
lists t = tables t.caseless.classes.now t.caseless.marks.now t.caseless.pairs.now t.logical.classes.now t.logical.marks.now t.logical.pairs.now t.visual.classes.now t.visual.marks.now t.visual.pairs.now t.arabic_french.classes.now t.arabic_french.marks.now t.arabic_french.pairs.now t.big5.now t.euckr.now t.jis.now t.extras.now t.weights.now
