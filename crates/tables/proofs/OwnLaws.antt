-- Exact lengths give each place those that its machine asks.
use Rattle.std.specs.Prelude.{◌≡◌, List, map, ℕ, ◌<◌, get_or}
use Rattle.std.proofs.Common.{ap, zero-add}
use Rattle.laws.specs.Each.{EachFrom, each_get}
use Rattle.single.specs.Lent.{Sized as SingleSized}
use Rattle.tables.specs.Own.{nothing, owns, own_of, lent_to, SizedAt, place_count}
use Rattle.tables.specs.Tables.{Rule, rules, Tables, lengths_of, Sized}

module _ (t : Tables) (s : Sized t) where
  -- the length of the table with number k
  at : (k : ℕ) → get_or (lengths_of t) k 0 ≡ get_or (map (λ (r : Rule). r.entries) rules) k 0
  at k = ap (λ (l : List ℕ). get_or l k 0) s.exact

  each_sized : EachFrom SizedAt 0 (owns t)
  each_sized = (tt, (at 14, ((at 13, (at 15, at 16)), ((at 12, at 16), (caseless, (logical, (visual, (arabic_french, (at 14, tt)))))))))
    where
      caseless : SingleSized (lent_to (own_of t 4))
      caseless = record { classes_length = at 0; marks_length = at 1; pairs_length = at 2; weights_length = at 16 }

      logical : SingleSized (lent_to (own_of t 5))
      logical = record { classes_length = at 3; marks_length = at 4; pairs_length = at 5; weights_length = at 16 }

      visual : SingleSized (lent_to (own_of t 6))
      visual = record { classes_length = at 6; marks_length = at 7; pairs_length = at 8; weights_length = at 16 }

      arabic_french : SingleSized (lent_to (own_of t 7))
      arabic_french = record { classes_length = at 9; marks_length = at 10; pairs_length = at 11; weights_length = at 16 }

  pub own_sized : (k : ℕ) → k < place_count → SizedAt k (own_of t k)
  own_sized k h = rw zero-add at (each_get SizedAt 0 (owns t) nothing each_sized k h)
