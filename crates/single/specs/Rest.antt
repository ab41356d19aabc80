-- Between words: the byte before is not alphabetic, so that no word ends, and no pair of two such classes is adjacent.
use Rattle.std.specs.Prelude.{◌≡◌, ℕ, ◌+◌, ◌*◌, ◌≤◌, Bool, true, false, not, ◌&&◌, List, ℤ, ◌+ℤ◌, ◌==◌, nat_abs, cond, pos}
use Rattle.std.proofs.Math.Path.{sym}
use Rattle.std.proofs.Common.{◌∙◌, arith, eqb-true, w64, to_z, of_z}
use Rattle.std.proofs.Math.Bool.{and-false}
use Rattle.laws.specs.Sizes.{thru64}
use Rattle.laws.specs.Tests.{both}
use Rattle.weights.specs.Weights.{weight_of, latin_adjacency, term}
use Rattle.single.specs.Class.{alphabetic_of, latin_letter}
use Rattle.single.specs.Pair.{adjacent_of, beside_of, pair_score, pair_gain_of, marked_gain_of}
use Rattle.single.specs.Words.{word_of}

-- byte i of a part has one before it, and no word has begun
abbrev pub rest_b : ℕ → ℕ → Bool
rest_b i word = not (i == 0) && word == 0

pub rest_word : (i word : ℕ) → rest_b i word ≡ true → word ≡ 0
rest_word i word h = eqb-true word 0 (both (not (i == 0)) (word == 0) h).1

module _ (marks : List ℕ) where
  abbrev pub Rests : ℕ → ℕ → ℕ → Type 0
  Rests i word previous = rest_b i word ≡ true → alphabetic_of marks previous ≡ false

  pub rest_start : (word k : ℕ) → Rests 0 word k
  rest_start word k h = cc

  -- a step leaves it so
  pub rest_next : (i word k : ℕ) (a : Bool) → alphabetic_of marks k ≡ a → Rests i (word_of word a) k
  rest_next i word k true e h = absurd (omega (arith, rest_word i (word + 1) h))
  rest_next i word k false e h = e

module _ (marks : List ℕ) (pairs weights : List ℤ) (p k : ℕ) where
  pub rest_gain : alphabetic_of marks p ≡ false → alphabetic_of marks k ≡ false → pair_score pairs p k ≡ pair_gain_of marks pairs weights p k
  unfolding pair_gain_of adjacent_of
  rest_gain e f = rw (e, f, and-false (p == latin_letter), and-false (k == latin_letter))

  -- who knows whether the current class is alphabetic gets the same
  pub marked_is : (a : Bool) → alphabetic_of marks k ≡ a → marked_gain_of marks pairs weights a p k ≡ pair_gain_of marks pairs weights p k
  unfolding marked_gain_of pair_gain_of adjacent_of beside_of
  marked_is a e = rw e

module _ (marks : List ℕ) (pairs weights : List ℤ) (a : Bool) (p k : ℕ) (g : ℤ) (r : Bool) (told : r ≡ beside_of marks a p k) where
  pub marked_plain : r ≡ false → g ≡ pair_score pairs p k → g ≡ marked_gain_of marks pairs weights a p k
  unfolding marked_gain_of
  marked_plain e q = let n : beside_of marks a p k ≡ false = sym told ∙ e in rw (n, q)

  pub marked_latin : r ≡ true → g ≡ pair_score pairs p k +ℤ weight_of weights latin_adjacency → g ≡ marked_gain_of marks pairs weights a p k
  unfolding marked_gain_of
  marked_latin e q = let n : beside_of marks a p k ≡ true = sym told ∙ e in rw (n, q)

-- what the code has found of a byte is its gain, as it is kept in 64 bits; `pair` says whether this byte and the one before are
-- both ASCII
module _ (marks : List ℕ) (pairs weights : List ℤ) (p k : ℕ) (pair r : Bool) (g : ℤ) (told : r ≡ pair) (no : r ≡ false) (small : nat_abs g ≤ 2 * term) where
  no_pair : pair ≡ false
  no_pair = sym told ∙ no

  kept : to_z w64 (of_z w64 g) ≡ g
  kept = thru64 g (2 * term) small (omega arith)

  pub gain_marked : (a : Bool) → alphabetic_of marks k ≡ a → g ≡ marked_gain_of marks pairs weights a p k → to_z w64 (of_z w64 g) ≡ cond pair (pos 0) (pair_gain_of marks pairs weights p k)
  gain_marked a e q = rw (kept, no_pair) (q ∙ marked_is marks pairs weights p k a e)

  pub gain_rested : alphabetic_of marks p ≡ false → alphabetic_of marks k ≡ false → g ≡ pair_score pairs p k → to_z w64 (of_z w64 g) ≡ cond pair (pos 0) (pair_gain_of marks pairs weights p k)
  gain_rested e f q = rw (kept, no_pair) (q ∙ rest_gain marks pairs weights p k e f)
