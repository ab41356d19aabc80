-- The tests at the entry decide what they are meant to, in both directions; and what a byte does to the shared fields.
use Rattle.std.specs.Prelude.{◌≡◌, ℕ, ◌+◌, ◌≤◌, Bool, true, false, cond, take, nat_lt}
use Rattle.std.proofs.Common.{mod-lt, arith, take_all}
use borrow.Author.Tests.{ltb-true, leb-true, eqb-true, lt-ltb, le-leb, eq-eqb}
use Rattle.laws.specs.Tests.{both}
use Rattle.lengths.specs.Lengths.{mark_count, pair_count, weight_count}
use Rattle.single.specs.Class.{class_of, caseless_of}
use Rattle.single.specs.Fit.{Common, common_b, Fit, fit_b}
use Rattle.single.specs.Lent.{Lent, Sized, sized_b}
use Rattle.single.specs.Punctuation.{count_of}
use Rattle.single.specs.Words.{word_of, longest_of}

-- ---- lengths
pub sized_true : (t : Lent) → sized_b t ≡ true → Sized t
unfolding sized_b
sized_true t e =
    let a = both _ _ e in
    let b = both _ _ a.1 in
    let c = both _ _ b.1 in
    record { classes_length = eqb-true _ _ a.0; marks_length = eqb-true _ _ b.0; pairs_length = eqb-true _ _ c.0; weights_length = eqb-true _ _ c.1 }

pub true_sized : (t : Lent) → Sized t → sized_b t ≡ true
unfolding sized_b
true_sized t o = rw (eq-eqb _ _ o.classes_length, eq-eqb _ _ o.marks_length, eq-eqb _ _ o.pairs_length, eq-eqb _ _ o.weights_length)

-- what is of its length is whole in a part of that length
module _ (t : Lent) (o : Sized t) where
  pub marks_whole : take mark_count t.marks ≡ t.marks
  marks_whole = take_all mark_count t.marks (omega (arith, o.marks_length))

  pub pairs_whole : take pair_count t.pairs ≡ t.pairs
  pairs_whole = take_all pair_count t.pairs (omega (arith, o.pairs_length))

  pub weights_whole : take weight_count t.weights ≡ t.weights
  weights_whole = take_all weight_count t.weights (omega (arith, o.weights_length))

-- ---- the shared fields
module _ (n prev word longest : ℕ) where
  pub common_true : common_b n prev word longest ≡ true → Common n prev word longest
  unfolding common_b
  common_true e =
      let a = both _ _ e in
      let b = both _ _ a.1 in
      record { prev_below = ltb-true _ _ a.0; word_most = leb-true _ _ b.0; longest_most = leb-true _ _ b.1 }

  pub true_common : Common n prev word longest → common_b n prev word longest ≡ true
  unfolding common_b
  true_common o = rw (lt-ltb _ _ o.prev_below, le-leb _ _ o.word_most, le-leb _ _ o.longest_most)

  pub common_more : (k : ℕ) → n ≤ k → Common n prev word longest → Common k prev word longest
  common_more k h o = record { prev_below = o.prev_below; word_most = omega (arith, o.word_most); longest_most = omega (arith, o.longest_most) }

-- ---- the whole test
pub fit_true : (t : Lent) (S : Type 0) (sound : Bool) (bytes : ℕ) → (sound ≡ true → S) → fit_b t sound bytes ≡ true → Fit t S bytes
unfolding fit_b
fit_true t S sound bytes f e =
    let a = both _ _ e in
    let b = both _ _ a.1 in
    record { sized = sized_true t a.0; sound = f b.0; short = leb-true _ _ b.1 }

pub true_fit : (t : Lent) (S : Type 0) (sound : Bool) (bytes : ℕ) → (S → sound ≡ true) → Fit t S bytes → fit_b t sound bytes ≡ true
unfolding fit_b
true_fit t S sound bytes f o = rw (true_sized t o.sized, f o.sound, le-leb _ _ o.short)

-- ---- a byte lengthens no count by more than one, and its class is below 128
word_next : (a : Bool) (w n : ℕ) → w ≤ n → word_of w a ≤ n + 1
word_next true w n h = omega arith
word_next false w n h = omega arith

longer_next : (t : Bool) (w l n : ℕ) → w ≤ n → l ≤ n → cond t w l ≤ n + 1
longer_next true w l n p q = omega arith
longer_next false w l n p q = omega arith

longest_next : (a : Bool) (w l n : ℕ) → w ≤ n → l ≤ n → longest_of w l a ≤ n + 1
longest_next true w l n p q = omega arith
longest_next false w l n p q = longer_next (nat_lt l w) w l n p q

pub common_next : (t : Lent) (n prev word longest : ℕ) (b : ℕ) (a : Bool) → Common n prev word longest → Common (n + 1) (caseless_of t b) (word_of word a) (longest_of word longest a)
common_next t n prev word longest b a o =
    record { prev_below = mod-lt (class_of t b) (omega arith); word_most = word_next a word n o.word_most; longest_most = longest_next a word longest n o.word_most o.longest_most }

pub count_next : (a : Bool) (k n : ℕ) → k ≤ n → count_of k a ≤ n + 1
count_next true k n h = omega arith
count_next false k n h = omega arith
