-- The 17 lent weights, in document 01's order, and what one byte can add.
use Rattle.std.specs.Prelude.{List, ℕ, ◌*◌, ℤ, pos, get_or}

pub data Weight : Type 0 where
  case : Weight
  latin_adjacency : Weight
  cjk_latin_adjacency : Weight
  cj_punctuation : Weight
  cjk_other : Weight
  big5_level1 : Weight
  big5_other : Weight
  big5_pua : Weight
  big5_extension : Weight
  euc_hangul : Weight
  non_euc_hangul : Weight
  hanja : Weight
  hanja_after_hangul : Weight
  euc_kr_pua : Weight
  mac_korean : Weight
  euc_kr_extension : Weight
  long_word : Weight

-- where it stands in the lent list
abbrev pub index_of : Weight → ℕ
index_of case = 0
index_of latin_adjacency = 1
index_of cjk_latin_adjacency = 2
index_of cj_punctuation = 3
index_of cjk_other = 4
index_of big5_level1 = 5
index_of big5_other = 6
index_of big5_pua = 7
index_of big5_extension = 8
index_of euc_hangul = 9
index_of non_euc_hangul = 10
index_of hanja = 11
index_of hanja_after_hangul = 12
index_of euc_kr_pua = 13
index_of mac_korean = 14
index_of euc_kr_extension = 15
index_of long_word = 16

-- the weight, of a list that has them all
abbrev pub weight_of : List ℤ → Weight → ℤ
weight_of weights w = get_or weights (index_of w) (pos 0)

-- a weight's largest size, and what one byte adds to a score at most: five such terms
abbrev pub term : ℕ
term = 2147483648

abbrev pub per_byte : ℕ
per_byte = 5 * term
