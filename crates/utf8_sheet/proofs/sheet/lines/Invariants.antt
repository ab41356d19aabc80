-- `lines` meets its contract: what is left, written from here on, gives what the whole row gives from the start.
use mathlib.Core.Path.{◌≡◌}
use Prim.Native.Nat.{◌-◌, ◌≤◌}
use lib.ListN.{length, drop}
use Rattle.scribe.specs.Lent.{with_text}
use Rattle.utf8_sheet.specs.Sheet.{runs_from, runs_of, lines_of}
use Rattle.utf8_sheet.proofs.sheet.lines.Given as goal

abbrev pub invariant-loop-from : goal.invariant-loop-from
invariant-loop-from l = (l.from ≤ length l.row) × (with_text l.out (lines_of (runs_from l.from (drop l.from l.row))) ≡ with_text l.initial.out (lines_of (runs_of l.row)))

abbrev pub decreases-loop-from : goal.decreases-loop-from
decreases-loop-from l = length l.row - l.from
