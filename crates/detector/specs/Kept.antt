-- What an accepted chunk has passed, and what every feed keeps.
use Rattle.std.specs.Prelude.{◌≡◌, false, List, ℕ, ◌+◌, ◌≤◌, length}
use Rattle.laws.specs.Limit.{limit}
use Rattle.tables.specs.Tables.{Tables, Sized}
use Rattle.state.specs.Order.{InOrder}
use Rattle.state.specs.declared.reply.Reply.{Reply}
use Rattle.state.specs.declared.reply.Reply.TheVariants.{Accepted, Closed, WrongLength, TooLong, NotInOrder}
use Rattle.state.specs.declared.State.{State}

-- what passed the tests
pub record Passed (t : Tables) (s : State) (xs : List ℕ) : Type 0 where
  pub sized : Sized t
  pub in_order : InOrder s
  pub going : s.front.closed ≡ false
  pub short : s.front.bytes + length xs ≤ limit

-- with any reply but 4 the state is in order
abbrev pub StaysIn : Reply → State → Type 0
StaysIn (Accepted flag) s = InOrder s
StaysIn (Closed flag) s = InOrder s
StaysIn (WrongLength flag) s = InOrder s
StaysIn (TooLong flag) s = InOrder s
StaysIn NotInOrder s = Unit {0}
