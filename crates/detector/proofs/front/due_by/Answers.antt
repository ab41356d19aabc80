-- `due_by` meets its contract.
use Rattle.detector.specs.FrontLaws.{due_earlier, due_escape, due_non_ascii, due_nowhere}
use Rattle.detector.proofs.front.due_by.Goals as goal

pub returns-in-Earlier-clause-due_by : goal.returns-in-Earlier-clause-due_by
returns-in-Earlier-clause-due_by c = rw c.in-Earlier.is (due_earlier c.args.front.context)

pub returns-in-Escape-clause-due_by : goal.returns-in-Escape-clause-due_by
returns-in-Escape-clause-due_by c = rw c.in-Escape.is (due_escape c.args.front.context c.in-Escape.at c.due_at.result c.due_at.ensures.due_at)

pub returns-in-NonAscii-clause-due_by : goal.returns-in-NonAscii-clause-due_by
returns-in-NonAscii-clause-due_by c = rw c.in-NonAscii.is (due_non_ascii c.args.front.context c.in-NonAscii.at c.due_at-in-NonAscii.result c.due_at-in-NonAscii.ensures.due_at)

pub returns-in-Nowhere-clause-due_by : goal.returns-in-Nowhere-clause-due_by
returns-in-Nowhere-clause-due_by c = rw c.in-Nowhere.is (due_nowhere c.args.front.context)
