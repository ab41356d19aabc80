-- `grid::after` meets its contract: from the state the bytes that are left lead where all of them lead from the first one.
use Rattle.std.specs.Prelude.{◌≡◌, ◌≤◌, drop}
use Rattle.laws.specs.Run.{run}
use Rattle.utf8.specs.Utf8.{step_of}
use Rattle.utf8.specs.Grid.{last, outcome_at}
use Rattle.utf8.proofs.grid.after.Given as goal

abbrev pub invariant-loop-b : goal.invariant-loop-b
invariant-loop-b l =
    record {
      state : l.state ≤ last;
      leads : run step_of (outcome_at l.state) (drop l.b-index l.block) ≡ run step_of (outcome_at l.from) l.block;
    }
