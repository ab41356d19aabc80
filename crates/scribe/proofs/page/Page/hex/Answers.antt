-- `hex` meets its contract.
use Rattle.scribe.specs.LentLaws.{with_both}
use Rattle.scribe.specs.Text.{hex_of}
use Rattle.scribe.proofs.page.Page.hex.Goals as goal

pub returns : goal.returns
unfolding hex_of
returns c = with_both _ _ _ (rw c.digit.ensures at c.byte.ensures) (rw c.digit-2.ensures at c.byte-2.ensures)
