-- `write` meets its contract.
use Rattle.scribe.specs.LentLaws.{with_both}
use Rattle.account.specs.Account.{account_of}
use Rattle.account.proofs.write.Goals as goal

pub returns : goal.returns
unfolding account_of
returns c = with_both _ _ _ (rw c.head_length-head.ensures at c.count_lines.ensures) (rw c.head_length-head.ensures at c.place_lines.ensures)
