-- A count of at most 2^63 does not wrap where it grows by one.
use Rattle.std.specs.Prelude.{◌≡◌, ℕ, ◌^◌, ◌<◌, ◌≤◌, Bool, true, false}
use Rattle.std.proofs.Common.{◌∙◌, ap, mod-eq_of_lt, arith}
use Rattle.single.specs.Punctuation.{count_of}
use Rattle.single.specs.Words.{in64, word_of, longest_of, words_of}
use Rattle.single.specs.declared.Words.{Words}

in64_small : (n : ℕ) → n < 2 ^ 64 → in64 n ≡ n
in64_small n h = mod-eq_of_lt h

pub count_kept : (count : ℕ) (more : Bool) → count ≤ 2 ^ 63 → in64 (count_of count more) ≡ count_of count more
count_kept count true h = in64_small _ (omega arith)
count_kept count false h = in64_small _ (omega arith)

word_kept : (word : ℕ) (alphabetic : Bool) → word ≤ 2 ^ 63 → in64 (word_of word alphabetic) ≡ word_of word alphabetic
word_kept word true h = in64_small _ (omega arith)
word_kept word false h = in64_small _ (omega arith)

pub words_kept : (r : Words) (word longest : ℕ) (alphabetic : Bool) → word ≤ 2 ^ 63 → r ≡ words_of word longest alphabetic → (r.current ≡ word_of word alphabetic) × (r.longest ≡ longest_of word longest alphabetic)
words_kept r word longest alphabetic h e = (ap (λ (w : Words). w.current) e ∙ word_kept word alphabetic h, ap (λ (w : Words). w.longest) e)
