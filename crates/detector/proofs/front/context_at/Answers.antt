-- `context_at` meets its contract.
use native.Mathlib.Omega.{arith}
use mathlib.Core.Path.{◌∙◌}
use Rattle.detector.specs.FrontLaws.{context_emptied, context_kept}
use Rattle.detector.proofs.front.context_at.Goals as goal

pub returns-then-at-ge-MOST : goal.returns-then-at-ge-MOST
returns-then-at-ge-MOST c = let a = c.args in context_kept a.context a.at c.if-at-ge-MOST.true

pub returns : goal.returns
returns c = let a = c.args in c.fresh.ensures ∙ context_emptied a.context a.at (omega (arith, c.if-at-ge-MOST.false))
