-- `told` meets its contract.
use mir.Syntax.{w64}
use Rattle.laws.specs.Sizes.{thru}
use Rattle.scribe.specs.LentLaws.{with_both}
use Rattle.account.specs.Account.{told_text}
use borrow.Author.Rules.{rules}
use Rattle.account.proofs.told.Goals as goal

pub returns-in-Err : goal.returns-in-Err
unfolding told_text
returns-in-Err c = rw c.in-Err.is c.dropped.ensures

pub returns-in-Ok : goal.returns-in-Ok
unfolding told_text
returns-in-Ok c =
    rw c.in-Ok.is (with_both _ _ _ c.word.ensures (rw (thru w64 c.in-Ok.n (record { sfits = search rules })) at c.signed.ensures))
