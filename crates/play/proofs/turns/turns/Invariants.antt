-- `turns` meets its contract.
use Rattle.std.proofs.Common.{◌≡◌, length}
use Rattle.tables.specs.Lists.{lists}
use Rattle.play.specs.Turn.{Played}
use Rattle.play.specs.Within.{Within}
use Rattle.play.proofs.turns.turns.Given as goal

abbrev pub invariant-loop : goal.invariant-loop
invariant-loop l =
    (length l.window ≡ length l.initial.window) × (Within (length l.initial.window) l.t.span × Played (lists l.tables) l.initial.t.state l.t.state)
