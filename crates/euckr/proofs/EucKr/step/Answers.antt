-- `EucKr::step` meets its contract.
use mathlib.Core.Path.{ap, ◌∙◌}
use Rattle.euckr.specs.Scoring.{after_byte, lent}
use Rattle.euckr.specs.Ways.{step_on}
use Rattle.euckr.specs.EucKrLaws.{error_slight}
use Rattle.euckr.proofs.EucKr.step.Goals as goal

pub returns-in-Pending-clause-result_value : goal.returns-in-Pending-clause-result_value
returns-in-Pending-clause-result_value c =
    let d = c.decode-d in
    c.pending.ensures ∙ step_on (lent c.args.index.now c.args.extras.now c.args.w) c.args.self c.args.b d.result d.ensures _ c.in-Pending.is

pub returns-in-Point-clause-result_value : goal.returns-in-Point-clause-result_value
returns-in-Point-clause-result_value c =
    let d = c.decode-d in
    c.after_byte.ensures _ ∙ (ap (after_byte d.result.lead c.args.b) c.unit.ensures.value ∙ step_on (lent c.args.index.now c.args.extras.now c.args.w) c.args.self c.args.b d.result d.ensures _ c.in-Point.is)

pub returns-in-Two-clause-result_value : goal.returns-in-Two-clause-result_value
returns-in-Two-clause-result_value c =
    let d = c.decode-d in
    c.after_byte-in-Two.ensures _ ∙ (ap (after_byte d.result.lead c.args.b) c.unit-in-Two.ensures.value ∙ step_on (lent c.args.index.now c.args.extras.now c.args.w) c.args.self c.args.b d.result d.ensures _ c.in-Two.is)

pub returns-in-Error-clause-result_value : goal.returns-in-Error-clause-result_value
returns-in-Error-clause-result_value c =
    let d = c.decode-d in
    c.error.ensures ∙ step_on (lent c.args.index.now c.args.extras.now c.args.w) c.args.self c.args.b d.result d.ensures _ c.in-Error.is

pub returns-in-Error-clause-slight : goal.returns-in-Error-clause-slight
returns-in-Error-clause-slight c =
    let d = c.decode-d in
    rw c.error.ensures (error_slight c.args.w c.requires.small_scale c.args.self c.requires.sound.held_small d.result.lead c.args.b _)
