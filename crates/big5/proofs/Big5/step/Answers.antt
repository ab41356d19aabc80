-- `Big5::step` meets its contract.
use mathlib.Core.Path.{ap, ◌∙◌}
use native.Mathlib.Omega.{arith}
use Rattle.laws.specs.Sizes.{thru64}
use Rattle.weights.specs.Weights.{term}
use Rattle.big5.specs.Scoring.{after_byte, other_of, lent}
use Rattle.big5.specs.Ways.{step_on}
use Rattle.big5.proofs.Big5.step.Goals as goal

pub returns-in-Pending : goal.returns-in-Pending
returns-in-Pending c =
    let s = c.args in
    let d = c.decode-d in
    c.after_byte.ensures ∙ (ap (after_byte d.result.lead s.b) c.pending.ensures ∙ step_on (lent s.index.now s.w) s.self s.b d.result d.ensures _ c.in-Pending.is)

pub returns-in-Point : goal.returns-in-Point
returns-in-Point c =
    let s = c.args in
    let d = c.decode-d in
    c.after_byte-in-Point.ensures ∙ (ap (after_byte d.result.lead s.b) c.point.ensures ∙ step_on (lent s.index.now s.w) s.self s.b d.result d.ensures _ c.in-Point.is)

pub returns-in-Two : goal.returns-in-Two
returns-in-Two c =
    let s = c.args in
    let d = c.decode-d in
    let e = thru64 s.w.other term c.requires.small_scale.other (omega arith) in
    c.after_byte-in-Two.ensures ∙ (ap (after_byte d.result.lead s.b) (c.other.ensures ∙ ap (other_of s.self) e) ∙ step_on (lent s.index.now s.w) s.self s.b d.result d.ensures _ c.in-Two.is)

pub returns-in-Error : goal.returns-in-Error
returns-in-Error c =
    let s = c.args in
    let d = c.decode-d in
    c.error.ensures ∙ step_on (lent s.index.now s.w) s.self s.b d.result d.ensures _ c.in-Error.is
