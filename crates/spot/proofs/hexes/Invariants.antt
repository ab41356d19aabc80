-- What is left, written from here on, gives what the whole gives from the start.
use Rattle.std.proofs.Common.{◌≡◌, drop}
use Rattle.scribe.specs.Lent.{with_text}
use Rattle.spot.specs.Spot.{spaced_hexes}
use Rattle.spot.proofs.hexes.Given as goal

abbrev pub invariant-loop-b : goal.invariant-loop-b
invariant-loop-b l = with_text l.out (spaced_hexes (drop l.b-index l.bytes)) ≡ with_text l.initial.out (spaced_hexes l.bytes)
