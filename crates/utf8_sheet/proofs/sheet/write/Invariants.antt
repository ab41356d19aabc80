-- The states that are left, written from here on, give what the whole grid gives from the start.
use Rattle.std.proofs.Common.{◌≡◌, ◌-◌}
use Rattle.scribe.specs.Lent.{with_text}
use Rattle.utf8_sheet.specs.Sheet.{states_from, sheet_of}
use Rattle.utf8_sheet.proofs.sheet.write.Given as goal

abbrev pub invariant-loop-s : goal.invariant-loop-s
invariant-loop-s l = with_text l.out (states_from l.grid (9 - l.s) l.s) ≡ with_text l.initial.out (sheet_of l.grid)
