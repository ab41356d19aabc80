-- ASCII punctuation of caseless class 0, and how many were plausible.
use Rattle.std.specs.Prelude.{ℕ, ◌+◌, Bool, cond, ◌&&◌, ◌==◌}
use Rattle.octets.specs.Octets.{is_punctuation}

abbrev pub punctuation_of : ℕ → ℕ → Bool
punctuation_of class b = class == 0 && is_punctuation b

abbrev pub count_of : ℕ → Bool → ℕ
count_of count more = cond more (count + 1) count
