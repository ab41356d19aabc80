-- A run of alphabetic classes lengthens the current word; any other class moves it to longest if longer, and zeroes it.
use Rattle.std.specs.Prelude.{ℕ, ◌+◌, ◌%◌, ◌^◌, Bool, cond, nat_lt}
use Rattle.single.specs.declared.Words.{Words}

abbrev pub word_of : ℕ → Bool → ℕ
word_of word alphabetic = cond alphabetic (word + 1) 0

abbrev pub longest_of : ℕ → ℕ → Bool → ℕ
longest_of word longest alphabetic = cond alphabetic longest (cond (nat_lt longest word) word longest)

-- a count as the code keeps it: WordsLaws has that none of a fit record wraps
abbrev pub in64 : ℕ → ℕ
in64 n = n % 2 ^ 64

abbrev pub words_of : ℕ → ℕ → Bool → Words
words_of word longest alphabetic = record { current = in64 (word_of word alphabetic); longest = longest_of word longest alphabetic }
