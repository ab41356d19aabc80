-- `place` meets its contract.
use mathlib.Core.Path.{ap, ◌∙◌}
use Rattle.scribe.specs.Lent.{with_text}
use Rattle.names.specs.Names.{place_name}
use Rattle.names.specs.NamesLaws.{last_name}
use Rattle.names.proofs.place.Goals as goal

pub returns-in-0 : goal.returns-in-0
unfolding place_name
returns-in-0 c = rw c.in-0.is c.word.ensures

pub returns-in-1 : goal.returns-in-1
unfolding place_name
returns-in-1 c = rw c.in-1.is c.word-in-1.ensures

pub returns-in-2 : goal.returns-in-2
unfolding place_name
returns-in-2 c = rw c.in-2.is c.word-in-2.ensures

pub returns-in-3 : goal.returns-in-3
unfolding place_name
returns-in-3 c = rw c.in-3.is c.word-in-3.ensures

pub returns-in-4 : goal.returns-in-4
unfolding place_name
returns-in-4 c = rw c.in-4.is c.word-in-4.ensures

pub returns-in-5 : goal.returns-in-5
unfolding place_name
returns-in-5 c = rw c.in-5.is c.word-in-5.ensures

pub returns-in-6 : goal.returns-in-6
unfolding place_name
returns-in-6 c = rw c.in-6.is c.word-in-6.ensures

pub returns-in-7 : goal.returns-in-7
unfolding place_name
returns-in-7 c = rw c.in-7.is c.word-in-7.ensures

pub returns-in_default : goal.returns-in_default
returns-in_default c =
    let r = c.in_default.in_default-own.rest in
    c.word-in_default.ensures ∙ ap (with_text _) (last_name _ r.0.0.0.0.0.0.0.1 r.0.0.0.0.0.0.1 r.0.0.0.0.0.1 r.0.0.0.0.1 r.0.0.0.1 r.0.0.1 r.0.1 r.1)
