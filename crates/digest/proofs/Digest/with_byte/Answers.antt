-- `with_byte` meets its contract.
use Rattle.digest.specs.Digest.{with_byte}
use Rattle.digest.proofs.Digest.with_byte.Goals as goal

pub returns : goal.returns
unfolding with_byte
returns c = rw c.from-added.ensures
