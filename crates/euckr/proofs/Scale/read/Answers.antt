-- `Scale::read` meets its contract.
use native.Mathlib.Omega.{arith}
use Rattle.laws.specs.Sizes.{thru64}
use Rattle.weights.specs.Weights.{term}
use Rattle.euckr.specs.Scoring.{scale_of}
use Rattle.euckr.proofs.Scale.read.Goals as goal

pub returns-clause-value : goal.returns-clause-value
unfolding scale_of
returns-clause-value c =
    let e0 = thru64 c.weight.result term c.weight.ensures.result_bound (omega arith) in
    let e1 = thru64 c.weight-2.result term c.weight-2.ensures.result_bound (omega arith) in
    let e2 = thru64 c.weight-3.result term c.weight-3.ensures.result_bound (omega arith) in
    let e3 = thru64 c.weight-4.result term c.weight-4.ensures.result_bound (omega arith) in
    let e4 = thru64 c.weight-5.result term c.weight-5.ensures.result_bound (omega arith) in
    let e5 = thru64 c.weight-6.result term c.weight-6.ensures.result_bound (omega arith) in
    let e6 = thru64 c.weight-7.result term c.weight-7.ensures.result_bound (omega arith) in
    let e7 = thru64 c.weight-8.result term c.weight-8.ensures.result_bound (omega arith) in
    let e8 = thru64 c.weight-9.result term c.weight-9.ensures.result_bound (omega arith) in
    let e9 = thru64 c.weight-10.result term c.weight-10.ensures.result_bound (omega arith) in
    rw (e0, c.weight.ensures.value, e1, c.weight-2.ensures.value, e2, c.weight-3.ensures.value, e3, c.weight-4.ensures.value, e4, c.weight-5.ensures.value, e5, c.weight-6.ensures.value, e6, c.weight-7.ensures.value, e7, c.weight-8.ensures.value, e8, c.weight-9.ensures.value, e9, c.weight-10.ensures.value)
