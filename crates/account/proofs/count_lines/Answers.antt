-- `count_lines` meets its contract.
use Rattle.scribe.specs.LentLaws.{with_both}
use Rattle.account.specs.Account.{count_lines}
use Rattle.account.proofs.count_lines.Goals as goal

pub returns : goal.returns
unfolding count_lines
returns c = with_both _ _ _ (with_both _ _ _ (with_both _ _ _ (with_both _ _ _ (with_both _ _ _ c.word.ensures c.decimal.ensures) c.byte.ensures) c.word-2.ensures) c.decimal-2.ensures) c.byte-2.ensures
