-- `settled` meets its contract.
use Rattle.std.proofs.Common.{Err, ap, ◌∙◌, w64, rules}
use Rattle.laws.specs.Sizes.{thru}
use Rattle.places.specs.FedLaws.{settled_live, settled_dropped, settled_unfit}
use Rattle.places.proofs.place.settled.Goals as goal

pub returns-in-Ok : goal.returns-in-Ok
returns-in-Ok c =
    let a = c.args in
    let g = c.in-Ok.found.1 in
    settled_live a.fresh a.before a.body a.bytes a.ran c.in-Ok.found.0 g _ c.in-Ok.is (thru w64 c.sum.result (record { sfits = c.sum.type_inv }) ∙ (rw (thru w64 a.before c.ranges.before, thru w64 g (search rules)) at c.sum.ensures))

pub returns-in-Dropped : goal.returns-in-Dropped
returns-in-Dropped c =
    let a = c.args in
    settled_dropped a.fresh a.before a.body a.bytes a.ran c.in-Dropped.reason c.in-Dropped.at _ (c.in-Err.is ∙ ap Err c.in-Dropped.is) (rw (c.less-in-Dropped.ensures, c.less.ensures) at c.less-in-Dropped-2.ensures)

pub returns-in-Unfit : goal.returns-in-Unfit
returns-in-Unfit c = let a = c.args in settled_unfit a.fresh a.before a.body a.bytes a.ran (c.in-Err.is ∙ ap Err c.in-Unfit.is)
