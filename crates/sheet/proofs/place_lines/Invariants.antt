-- What is left, written from here on, gives what the whole gives from the start.
use Rattle.std.proofs.Common.{◌≡◌, length, drop}
use Rattle.scribe.specs.Lent.{with_text}
use Rattle.sheet.specs.Sheet.{place_lines}
use Rattle.sheet.proofs.place_lines.Given as goal

abbrev pub invariant-loop-k : goal.invariant-loop-k
invariant-loop-k l = (length l.place-items ≡ 9) × (with_text l.out (place_lines l.k (drop l.k l.place-items)) ≡ with_text l.initial.out (place_lines 0 l.fn.slate))
