-- `turn` meets its contract: a command that was read is among the bytes at hand.
use Rattle.std.proofs.Common.{◌+◌, ◌≤◌, arith}
use Rattle.reader.specs.CommandLaws.{room}
use Rattle.tables.specs.Lists.{lists}
use Rattle.tables.specs.Tables.{Tables}
use Rattle.play.specs.TurnLaws.{within_hand, after_feed}
use Rattle.play.proofs.turns.turn.Goals as goal
use Rattle.play.proofs.turns.turn.Goals.{Start}

abbrev lent : Start → Tables
lent s = lists s.args.tables.now

pub started-requires : goal.started-requires
started-requires c = within_hand c.args.window.now c.args.t.span 3 c.requires (room _ _ c.in-Start.ensures)

pub fed-requires-clause-count_bound : goal.fed-requires-clause-count_bound
fed-requires-clause-count_bound c = within_hand c.args.window.now c.args.t.span (6 + c.in-Feed.count) c.requires (room _ _ c.in-Feed.ensures)

pub shown-requires : goal.shown-requires
shown-requires c = within_hand c.args.window.now c.args.t.span 1 c.requires (room _ _ c.in-Show.ensures)

pub past-requires : goal.past-requires
past-requires c = within_hand c.args.window.now c.args.t.span 1 c.requires (room _ _ c.in-Lend.ensures)

pub returns-in-Start-clause-within : goal.returns-in-Start-clause-within
returns-in-Start-clause-within c =
    let h : c.args.t.span.at + 3 ≤ c.args.t.span.end = within_hand c.args.window.now c.args.t.span 3 c.requires (room _ _ c.in-Start.ensures) in
    record { begun = omega (arith, h, c.started.ensures.at_value.0, c.started.ensures.at_value.1); ended = omega (arith, c.requires.ended, c.started.ensures.at_value.1) }

pub returns-in-Feed-clause-state_value : goal.returns-in-Feed-clause-state_value
returns-in-Feed-clause-state_value c =
    after_feed (lent (goal.at.returns-in-Feed-clause-state_value c).Start) c.args.t.state c.args.window.now c.args.t.span c.in-Feed.last c.in-Feed.count _ c.requires c.in-Feed.ensures c.fed.ensures.state_value

pub returns-in-Show-clause-within : goal.returns-in-Show-clause-within
returns-in-Show-clause-within c =
    let h : c.args.t.span.at + 1 ≤ c.args.t.span.end = within_hand c.args.window.now c.args.t.span 1 c.requires (room _ _ c.in-Show.ensures) in
    record { begun = omega (arith, h, c.shown.ensures.at_value.0, c.shown.ensures.at_value.1); ended = omega (arith, c.requires.ended, c.shown.ensures.at_value.1) }

pub returns-in-Lend-clause-within : goal.returns-in-Lend-clause-within
returns-in-Lend-clause-within c =
    let h : c.args.t.span.at + 1 ≤ c.args.t.span.end = within_hand c.args.window.now c.args.t.span 1 c.requires (room _ _ c.in-Lend.ensures) in
    rw c.at.ensures.span_value
    (record { begun = omega (arith, h, c.past.ensures.0, c.past.ensures.1); ended = omega (arith, c.requires.ended, c.past.ensures.1) })
