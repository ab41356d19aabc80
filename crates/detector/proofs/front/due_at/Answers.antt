-- `due_at` meets its contract.
use native.Mathlib.Omega.{arith}
use Rattle.detector.specs.FrontLaws.{due_after, due_part}
use Rattle.detector.proofs.front.due_at.Goals as goal

pub returns-then-at-lt-MOST-clause-due_at : goal.returns-then-at-lt-MOST-clause-due_at
returns-then-at-lt-MOST-clause-due_at c = due_after c.args.context c.args.at c.count.result (omega (arith, c.if-at-lt-MOST.true)) c.count.ensures

pub returns-clause-due_at : goal.returns-clause-due_at
returns-clause-due_at c = due_part c.args.context c.args.at (omega (arith, c.if-at-lt-MOST.false))
