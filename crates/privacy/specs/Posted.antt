-- What a posted sheet tells of a head: two sheets that are equal but for the `bytes` line.
use Rattle.std.specs.Prelude.{◌≡◌, List, ◌++◌, ℕ}
use Rattle.tables.specs.Tables.{Tables}
use Rattle.state.specs.State.{start_of}
use Rattle.sheet.specs.Sheet.{bytes_line, sheet_of}
use Rattle.privacy.specs.Privacy.{Call, after_calls, Premises}

-- the same text around a `bytes` line of each
pub record SameButBytes (one two : List ℕ) : Type 0 where
  pub before : List ℕ
  pub behind : List ℕ
  pub one_bytes : ℕ
  pub two_bytes : ℕ
  pub one_is : one ≡ before ++ bytes_line one_bytes ++ behind
  pub two_is : two ≡ before ++ bytes_line two_bytes ++ behind

-- the printed sheets of two streams that meet the premises
abbrev pub Posted : Type 0
Posted = (t : Tables) (bits : ℕ) (one two : List Call) → Premises t bits one two → SameButBytes (sheet_of (after_calls t (start_of bits) one)) (sheet_of (after_calls t (start_of bits) two))
