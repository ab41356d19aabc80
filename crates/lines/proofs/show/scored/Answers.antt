-- `scored` meets its contract.
use Rattle.scribe.specs.LentLaws.{with_both}
use mir.Syntax.{w64}
use borrow.Author.Rules.{rules}
use Rattle.laws.specs.Sizes.{thru}
use Rattle.lines.specs.Show.{scored_text}
use Rattle.lines.proofs.show.scored.Goals as goal

pub returns-in-Err : goal.returns-in-Err
unfolding scored_text
returns-in-Err c = rw c.in-Err.is c.dropped.ensures

pub returns-in-Ok : goal.returns-in-Ok
unfolding scored_text
returns-in-Ok c =
    rw c.in-Ok.is (with_both _ _ _ (with_both _ _ _ (with_both _ _ _ c.word.ensures (rw (thru w64 c.in-Ok.n (record { sfits = search rules })) at c.signed.ensures)) c.machine_fields.ensures) c.end_line.ensures)
