-- `grid::after` meets its contract: from the state the bytes that are left lead where all of them lead from the first one.
use Rattle.std.proofs.Common.{sym, ◌∙◌, arith, drop, length-drop}
use Rattle.laws.specs.Run.{run_done}
use Rattle.utf8.specs.Utf8.{step_of}
use Rattle.utf8.specs.Grid.{outcome_at}
use Rattle.utf8.specs.GridLaws.{entry_most, turn_state}
use Rattle.utf8.proofs.grid.after.Goals as goal

pub loop-b-preserved : goal.loop-b-preserved
loop-b-preserved c =
    let e = c.next-state.ensures in
    let l = c.loop-b in
    record {
      state = rw e (entry_most _ _);
      leads = turn_state c.args.block.now l.b-index l.state _ l.invariant.state c.loop-b-test.true e ∙ l.invariant.leads;
    }

pub returns : goal.returns
returns c =
    let l = c.loop-b in
    (l.invariant.state, sym (run_done step_of (outcome_at l.state) (drop l.b-index c.args.block.now) (rw length-drop (omega arith))) ∙ l.invariant.leads)
