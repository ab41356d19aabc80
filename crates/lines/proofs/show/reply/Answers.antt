-- `reply` meets its contract.
use Rattle.scribe.specs.LentLaws.{with_both}
use Rattle.lines.specs.Show.{reply_text}
use Rattle.lines.proofs.show.reply.Goals as goal

pub returns : goal.returns
unfolding reply_text
returns c = with_both _ _ _ (with_both _ _ _ (rw (c.from.ensures, c.number.ensures) at c.count.ensures) (rw c.flag.ensures at c.flag-2.ensures)) c.end_line.ensures
