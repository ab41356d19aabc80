-- `Reply::number` meets its contract.
use Rattle.state.specs.Reply.{number_of}
use Rattle.state.proofs.reply.Reply.number.Goals as goal

pub returns-in-Accepted : goal.returns-in-Accepted
unfolding number_of
returns-in-Accepted c = rw c.in-Accepted.is

pub returns-in-Closed : goal.returns-in-Closed
unfolding number_of
returns-in-Closed c = rw c.in-Closed.is

pub returns-in-WrongLength : goal.returns-in-WrongLength
unfolding number_of
returns-in-WrongLength c = rw c.in-WrongLength.is

pub returns-in-TooLong : goal.returns-in-TooLong
unfolding number_of
returns-in-TooLong c = rw c.in-TooLong.is

pub returns-in-NotInOrder : goal.returns-in-NotInOrder
unfolding number_of
returns-in-NotInOrder c = rw c.in-NotInOrder.is
