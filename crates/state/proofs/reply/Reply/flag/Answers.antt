-- `Reply::flag` meets its contract.
use Rattle.state.specs.Reply.{reply_flag}
use Rattle.state.proofs.reply.Reply.flag.Goals as goal

pub returns-in-Accepted : goal.returns-in-Accepted
unfolding reply_flag
returns-in-Accepted c = rw c.in-Accepted.is

pub returns-in-Closed : goal.returns-in-Closed
unfolding reply_flag
returns-in-Closed c = rw c.in-Closed.is

pub returns-in-WrongLength : goal.returns-in-WrongLength
unfolding reply_flag
returns-in-WrongLength c = rw c.in-WrongLength.is

pub returns-in-TooLong : goal.returns-in-TooLong
unfolding reply_flag
returns-in-TooLong c = rw c.in-TooLong.is

pub returns-in-NotInOrder : goal.returns-in-NotInOrder
unfolding reply_flag
returns-in-NotInOrder c = rw c.in-NotInOrder.is
