-- The reply tables: number and flag.
use Rattle.std.specs.Prelude.{Bool, false, ℕ}
use Rattle.state.specs.declared.reply.Reply.{Reply}
use Rattle.state.specs.declared.reply.Reply.TheVariants.{Accepted, Closed, WrongLength, TooLong, NotInOrder}
use Rattle.state.specs.declared.reply.StartReply.{StartReply}
use Rattle.state.specs.declared.reply.StartReply.TheVariants as start

unfoldable pub number_of : Reply → ℕ
number_of (Accepted flag) = 0
number_of (Closed flag) = 1
number_of (WrongLength flag) = 2
number_of (TooLong flag) = 3
number_of NotInOrder = 4

unfoldable pub reply_flag : Reply → Bool
reply_flag (Accepted flag) = flag
reply_flag (Closed flag) = flag
reply_flag (WrongLength flag) = flag
reply_flag (TooLong flag) = flag
reply_flag NotInOrder = false

-- to a start
abbrev pub start_number : StartReply → ℕ
start_number start.Accepted = 0
start_number start.NoSuchPlace = 12
