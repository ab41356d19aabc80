-- `over` meets its contract.
use mathlib.Core.Path.{ap}
use native.Mathlib.Omega.{arith}
use Rattle.state.specs.StartLaws.{start_accepted}
use Rattle.detector.specs.declared.feed.Fed.{Fed}
use Rattle.label.proofs.over.Goals as goal

pub returns : goal.returns
returns c = ap (λ (f : Fed). f.state) (rw (c.start-begun.ensures, start_accepted 511 (omega arith)) at c.feed-fed.ensures.value)
