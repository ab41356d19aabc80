-- `marked_gain` meets its contract.
use Rattle.std.proofs.Common.{◌≡◌, ◌≤◌, ℤ, ◌+ℤ◌, nat_abs, arith, w64, to_z, of_z}
use Rattle.laws.specs.Sizes.{abs_add, thru64}
use Rattle.weights.specs.Weights.{term}
use Rattle.single.specs.Rest.{marked_plain, marked_latin}
use Rattle.single.proofs.marked_gain.Goals as goal

-- what a call gave reads back as it is
reads : (z : ℤ) → nat_abs z ≤ term → to_z w64 (of_z w64 z) ≡ z
reads z h = thru64 z term h (omega arith)

pub returns-then-is_beside-clause-value : goal.returns-then-is_beside-clause-value
returns-then-is_beside-clause-value c =
    let s = c.args in
    let t = s.lent.now in
    let p = c.pair_score-score in
    let sum = p.result +ℤ c.weight.result in
    let small : nat_abs sum ≤ 4294967296 = omega (arith, abs_add p.result c.weight.result, p.ensures.result_bound, c.weight.ensures.result_bound) in
    let e = thru64 sum 4294967296 small (omega arith) in
    rw (reads p.result p.ensures.result_bound, reads c.weight.result c.weight.ensures.result_bound, e)
    (marked_latin t.marks.now t.pairs.now t.weights.now s.alphabetic s.prev s.current sum _ c.is_beside.ensures c.if-is_beside.true (rw (p.ensures.value, c.weight.ensures.value)))

pub returns-clause-value : goal.returns-clause-value
returns-clause-value c =
    let s = c.args in
    let t = s.lent.now in
    let p = c.pair_score-score in
    rw (reads p.result p.ensures.result_bound)
    (marked_plain t.marks.now t.pairs.now t.weights.now s.alphabetic s.prev s.current p.result _ c.is_beside.ensures c.if-is_beside.false p.ensures.value)
