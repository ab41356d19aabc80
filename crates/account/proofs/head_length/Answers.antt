-- `head_length` meets its contract.
use Rattle.account.specs.Account.{head_length}
use Rattle.account.proofs.head_length.Goals as goal

pub returns : goal.returns
unfolding head_length
returns c = c.saturating_sub.ensures
