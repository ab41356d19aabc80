-- `start` meets its contract.
use mathlib.Core.Path.{refl}
use Rattle.scribe.specs.Page.{onto}
use Rattle.scribe.specs.LentLaws.{with_both}
use Rattle.lines.specs.Show.{start_text}
use Rattle.lines.proofs.show.start.Goals as goal

pub returns-in-Accepted : goal.returns-in-Accepted
unfolding onto start_text
returns-in-Accepted c = rw c.in-Accepted.is refl

pub returns-in-NoSuchPlace : goal.returns-in-NoSuchPlace
unfolding start_text
returns-in-NoSuchPlace c =
    let told = c.in-NoSuchPlace.is in
    let number = c.number.ensures in
    let wide = c.from.ensures in
    rw told (with_both _ _ _ (rw (wide, number, told) at c.count.ensures) c.end_line.ensures)
