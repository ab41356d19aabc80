-- `ArabicFrench::latin` meets its contract: the sum of the two terms fits.
use Rattle.std.proofs.Common.{◌≡◌, sym, ◌∙◌, false, ◌*◌, ℤ, ◌+ℤ◌, to_z, of_z, arith}
use Rattle.std.specs.Int.{w64}
use Rattle.laws.specs.Sizes.{sum_fits, thru, thru64}
use Rattle.weights.specs.Weights.{term}
use Rattle.single.specs.Before.{ascii_pair_at}
use Rattle.single.specs.Class.{latin_letter}
use Rattle.single.specs.Rest.{marked_is}
use Rattle.arabic_french.proofs.ArabicFrench.latin.Goals as goal

sums : {a b x y : ℤ} → a ≡ x → b ≡ y → a +ℤ b ≡ x +ℤ y
sums p q = rw (p, q)

-- the two terms, and their sum, as the code reads them
module _ (c : goal.After-gain) where
  abbrev pair : ℤ
  pair = c.marked_gain-pair.result

  abbrev caseGain : ℤ
  caseGain = c.gain.result

  read-pair : to_z w64 (of_z w64 pair) ≡ pair
  read-pair = thru64 pair (2 * term) c.marked_gain-pair.ensures.result_bound (omega arith)

  read-case : to_z w64 (of_z w64 caseGain) ≡ caseGain
  read-case = thru64 caseGain term c.gain.ensures.result_bound (omega arith)

  read-sum : to_z w64 (of_z w64 (to_z w64 (of_z w64 pair) +ℤ to_z w64 (of_z w64 caseGain))) ≡ pair +ℤ caseGain
  read-sum = rw (read-pair, read-case) (thru w64 (pair +ℤ caseGain) (sum_fits pair caseGain (2 * term) term c.marked_gain-pair.ensures.result_bound c.gain.ensures.result_bound (omega arith)))

pub returns-clause-gain : goal.returns-clause-gain
returns-clause-gain c =
    let s = c.args in
    let t = s.lent.now in
    let e : ascii_pair_at s.part.now s.i s.self.prev_ascii ≡ false = sym c.is_ascii_pair.ensures ∙ c.if-is_ascii_pair.false in
    let g = c.marked_gain-pair.ensures.value ∙ marked_is t.marks.now t.pairs.now t.weights.now s.self.prev latin_letter c.is_non_latin_alphabetic-alphabetic.result (sym c.is_non_latin_alphabetic-alphabetic.ensures) in
    let h = rw c.case_before-before.ensures at c.gain.ensures.value in
    rw (read-sum c, sums g h, e)
