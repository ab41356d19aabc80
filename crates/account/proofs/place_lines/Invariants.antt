-- What is left, written from here on, gives what the whole gives from the start.
use Rattle.std.proofs.Common.{◌≡◌, length, drop}
use Rattle.scribe.specs.Lent.{with_text}
use Rattle.account.specs.Account.{place_lines}
use Rattle.account.proofs.place_lines.Given as goal

abbrev pub invariant-loop-k : goal.invariant-loop-k
invariant-loop-k l = (length l.place-items ≡ 9) × (with_text l.out (place_lines l.file.bytes.now l.file.head l.k (drop l.k l.place-items)) ≡ with_text l.initial.out (place_lines l.file.bytes.now l.file.head 0 l.fn.slate))
