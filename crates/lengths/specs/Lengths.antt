-- How many entries each lent table has.
use Rattle.std.specs.Prelude.{ℕ}

abbrev pub class_count : ℕ
class_count = 256

abbrev pub mark_count : ℕ
mark_count = 128

abbrev pub pair_count : ℕ
pair_count = 16384

abbrev pub big5_count : ℕ
big5_count = 19782

abbrev pub euc_kr_count : ℕ
euc_kr_count = 23940

abbrev pub jis_count : ℕ
jis_count = 11280

abbrev pub extra_count : ℕ
extra_count = 11172

abbrev pub weight_count : ℕ
weight_count = 17
