-- What room for all that is lent holds, as the definitions read it.
use Rattle.std.specs.Prelude.{pos, replicate}
use Rattle.lengths.specs.Lengths.{class_count, mark_count, pair_count, big5_count, euc_kr_count, jis_count, extra_count, weight_count}
use Rattle.tables.specs.Tables.{Single, Tables, single}
use Rattle.tables.specs.declared.held.HeldSingle.{HeldSingle}
use Rattle.tables.specs.declared.held.Held.{Held}

abbrev pub single_held : HeldSingle → Single
single_held s = single s.classes s.marks s.pairs

abbrev pub held : Held → Tables
held h = record { caseless = single_held h.caseless; logical = single_held h.logical; visual = single_held h.visual; arabic_french = single_held h.arabic_french; big5 = h.big5; euckr = h.euckr; jis = h.jis; extras = h.extras; weights = h.weights }

-- ---- nothing but zeros
unfoldable pub zero_single : HeldSingle
zero_single = record { classes = replicate class_count 0; marks = replicate mark_count 0; pairs = replicate pair_count (pos 0) }

unfoldable pub zeros : Held
zeros = record { caseless = zero_single; logical = zero_single; visual = zero_single; arabic_french = zero_single; big5 = replicate big5_count 0; euckr = replicate euc_kr_count 0; jis = replicate jis_count 0; extras = replicate extra_count (pos 0); weights = replicate weight_count (pos 0) }
