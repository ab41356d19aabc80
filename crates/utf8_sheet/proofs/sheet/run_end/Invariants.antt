-- The run so far can go on over what is left.
use Rattle.std.proofs.Common.{◌≡◌, ◌-◌, ◌<◌, ◌≤◌, length, drop}
use Rattle.utf8_sheet.specs.Sheet.{run, runs_after, runs_from}
use Rattle.utf8_sheet.proofs.sheet.run_end.Given as goal

abbrev pub invariant-loop-end : goal.invariant-loop-end
invariant-loop-end l = (l.from < l.end) × ((l.end ≤ length l.row) × (runs_from l.from (drop l.from l.row) ≡ runs_after (run l.from (l.end - 1) l.entry) (drop l.end l.row)))
