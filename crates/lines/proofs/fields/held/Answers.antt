-- `held` meets its contract.
use Rattle.scribe.specs.LentLaws.{with_both}
use mir.Syntax.{w64}
use borrow.Author.Rules.{rules}
use Rattle.laws.specs.Sizes.{thru}
use Rattle.lines.specs.Fields.{held_text}
use Rattle.lines.proofs.fields.held.Goals as goal

pub returns-in-None : goal.returns-in-None
unfolding held_text
returns-in-None c = rw c.in-None.is (with_both _ _ _ c.word.ensures c.word-in-None.ensures)

pub returns-in-Some : goal.returns-in-Some
unfolding held_text
returns-in-Some c = rw c.in-Some.is (with_both _ _ _ c.word.ensures (rw (thru w64 c.in-Some.z (record { sfits = search rules })) at c.signed.ensures))
