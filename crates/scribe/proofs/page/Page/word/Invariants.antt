-- What is left of the text, written from here on, gives what the whole gives from the start.
use Rattle.std.proofs.Common.{◌≡◌, drop}
use Rattle.scribe.specs.Lent.{with_text}
use Rattle.scribe.proofs.page.Page.word.Given as goal

abbrev pub invariant-loop-b : goal.invariant-loop-b
invariant-loop-b l = with_text l.self (drop l.b-index l.text) ≡ with_text l.initial.self l.text
