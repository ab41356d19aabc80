-- Whether the byte before byte i of a part is ASCII; at the part's start the record has it.
use Rattle.std.specs.Prelude.{◌≡◌, ℕ, ◌+◌, ◌-◌, Bool, false, cond, List, ◌==◌, slice_index}
use Rattle.std.proofs.Common.{arith, ne_eqb}
use Rattle.octets.specs.Octets.{ascii}
use Rattle.single.specs.Pair.{ascii_pair}

abbrev pub ascii_before : List ℕ → ℕ → Bool → Bool
ascii_before xs i flag = cond (i == 0) flag (ascii (slice_index xs (i - 1)))

-- whether byte i and the one before are both ASCII
abbrev pub ascii_pair_at : List ℕ → ℕ → Bool → Bool
ascii_pair_at xs i flag = ascii_pair (ascii_before xs i flag) (slice_index xs i)

pub not_first : (i : ℕ) → (i + 1 == 0) ≡ false
not_first i = ne_eqb (i + 1) 0 (λ e. omega (arith, e))

pub one_back : (i : ℕ) → i + 1 - 1 ≡ i
one_back i = omega arith

pub ascii_next : (xs : List ℕ) (i : ℕ) (flag : Bool) → ascii_before xs (i + 1) flag ≡ ascii (slice_index xs i)
ascii_next xs i flag = rw (not_first i, one_back i)
