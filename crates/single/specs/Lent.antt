-- What a single-byte machine is lent.
use Rattle.std.specs.Prelude.{◌≡◌, ℕ, Bool, ◌&&◌, List, length, ℤ, ◌==◌}
use Rattle.lengths.specs.Lengths.{class_count, mark_count, pair_count, weight_count}

pub record Lent : Type 0 where
  pub classes : List ℕ
  pub marks : List ℕ
  pub pairs : List ℤ
  pub weights : List ℤ

abbrev pub lent : List ℕ → List ℕ → List ℤ → List ℤ → Lent
lent c m p w = record { classes = c; marks = m; pairs = p; weights = w }

-- lengths are exact
pub record Sized (t : Lent) : Type 0 where
  pub classes_length : length t.classes ≡ class_count
  pub marks_length : length t.marks ≡ mark_count
  pub pairs_length : length t.pairs ≡ pair_count
  pub weights_length : length t.weights ≡ weight_count

unfoldable pub sized_b : Lent → Bool
sized_b t = length t.classes == class_count && (length t.marks == mark_count && (length t.pairs == pair_count && length t.weights == weight_count))
