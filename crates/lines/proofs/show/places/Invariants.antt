-- What is left, written from here on, gives what the whole gives from the start.
use Rattle.std.proofs.Common.{◌≡◌, length, drop}
use Rattle.scribe.specs.Lent.{with_text}
use Rattle.lines.specs.Show.{places_text}
use Rattle.lines.proofs.show.places.Given as goal

abbrev pub invariant-loop-p : goal.invariant-loop-p
invariant-loop-p l = (length l.p-items ≡ 9) × (with_text l.out (places_text (drop l.p-index l.p-items)) ≡ with_text l.initial.out (places_text l.fn.slate))
