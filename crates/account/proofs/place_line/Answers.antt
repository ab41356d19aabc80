-- `place_line` meets its contract.
use Rattle.scribe.specs.LentLaws.{with_both}
use Rattle.account.specs.Account.{place_line}
use Rattle.account.proofs.place_line.Goals as goal

pub returns : goal.returns
unfolding place_line
returns c = with_both _ _ _ (with_both _ _ _ (with_both _ _ _ c.place.ensures c.word.ensures) c.told.ensures) c.byte.ensures
