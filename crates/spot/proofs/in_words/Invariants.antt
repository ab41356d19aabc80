-- What is left, written from here on, gives what the whole gives from the start.
use Rattle.std.proofs.Common.{◌≡◌, drop}
use Rattle.scribe.specs.Lent.{with_text}
use Rattle.spot.specs.Spot.{unhyphened}
use Rattle.spot.proofs.in_words.Given as goal

abbrev pub invariant-loop-b : goal.invariant-loop-b
invariant-loop-b l = with_text l.out (unhyphened (drop l.b-index l.text)) ≡ with_text l.initial.out (unhyphened l.text)
