-- What is tested once at the entry of a public call: the lent lengths, the record, the part's length.
use Rattle.std.specs.Prelude.{ℕ, ◌<◌, ◌≤◌, Bool, ◌&&◌, nat_le, nat_lt}
use Rattle.laws.specs.Limit.{limit}
use Rattle.single.specs.Lent.{Lent, Sized, sized_b}

-- the shared fields of a record that no bound of n bytes excludes
pub record Common (n prev word longest : ℕ) : Type 0 where
  pub prev_below : prev < 128
  pub word_most : word ≤ n
  pub longest_most : longest ≤ n

unfoldable pub common_b : ℕ → ℕ → ℕ → ℕ → Bool
common_b n prev word longest = nat_lt prev 128 && (nat_le word n && nat_le longest n)

-- S says that the record is sound
pub record Fit (t : Lent) (S : Type 0) (bytes : ℕ) : Type 0 where
  pub sized : Sized t
  pub sound : S
  pub short : bytes ≤ limit

unfoldable pub fit_b : Lent → Bool → ℕ → Bool
fit_b t sound bytes = sized_b t && (sound && nat_le bytes limit)
