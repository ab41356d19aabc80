-- `entries` meets its contract: what is left of the bytes, read into the entries from here on, gives what all of them give from the start.
use Rattle.std.proofs.Common.{◌≡◌}
use Rattle.reader.specs.Fill.{fill}
use Rattle.reader.specs.FillLaws.{so_far}
use Rattle.reader.proofs.fill.entries.Given as goal

abbrev pub invariant-loop-entry : goal.invariant-loop-entry
invariant-loop-entry g l =
    let n = g.T.Number in so_far n.SIZE n.head l.left 0 l.to l.entry-index ≡ fill n.SIZE n.head l.from l.fn.to
