-- `Big5::run` meets its contract.
use mathlib.Core.Path.{sym, ◌∙◌}
use Rattle.laws.specs.Answer.{if_unfit}
use Rattle.big5.specs.Big5.{Ready, ran_of}
use Rattle.big5.proofs.Big5Laws.{ready_true, ran_ready}
use Rattle.big5.proofs.Big5.run.Goals as goal
use Rattle.big5.proofs.Big5.run.Goals.{Then-is_ready}

-- what the test says
ready : (c : Then-is_ready) → Ready c.args.index.now c.args.weights.now c.args.self c.args.part.now
ready c = ready_true c.args.index.now c.args.weights.now c.args.self c.args.part.now (sym c.is_ready.ensures ∙ c.if-is_ready.true)

pub run_fit-requires-clause-sound : goal.run_fit-requires-clause-sound
run_fit-requires-clause-sound c = (ready (goal.at.run_fit-requires-clause-sound c).Then-is_ready).sound

pub run_fit-requires-clause-part_len_bound : goal.run_fit-requires-clause-part_len_bound
run_fit-requires-clause-part_len_bound c = (ready (goal.at.run_fit-requires-clause-part_len_bound c).Then-is_ready).short

pub run_fit-requires-clause-index_len : goal.run_fit-requires-clause-index_len
run_fit-requires-clause-index_len c = (ready (goal.at.run_fit-requires-clause-index_len c).Then-is_ready).index_length

pub returns-then-is_ready-clause-value : goal.returns-then-is_ready-clause-value
returns-then-is_ready-clause-value c =
    let r = ready (goal.at.returns-then-is_ready-clause-value c).Then-is_ready in
    let e = rw c.read.ensures.value at c.run_fit.ensures.value in
    e ∙ sym (ran_ready c.args.index.now c.args.weights.now c.args.self c.args.part.now r)

pub returns-clause-value : goal.returns-clause-value
unfolding ran_of
returns-clause-value c = sym (if_unfit _ _ (sym c.is_ready.ensures ∙ c.if-is_ready.false))
