-- `grid::run` meets its contract: the checker computes the test of all entries of the grid that the code has.
use Rattle.laws.specs.Run.{plus, with_byte}
use Rattle.utf8.specs.Utf8.{next_in, lead_of, trail_of, step_of}
use Rattle.utf8.specs.Grid.{record_at, outcome_at, cut_state, state_of, state_after, entry_of}
use Rattle.utf8.specs.GridLaws.{is_grid}
use Rattle.utf8.proofs.grid.run.Goals as goal

pub run_over-requires : goal.run_over-requires
unfolding entry_of state_after state_of cut_state next_in outcome_at record_at with_byte plus step_of lead_of trail_of
run_over-requires c = (is_grid _ tt, c.requires)
