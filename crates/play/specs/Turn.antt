-- What commands make of the state.
use Rattle.std.specs.Prelude.{◌≡◌, List, [], ◌∷◌, ℕ, ◌-◌, take, drop}
use Rattle.tables.specs.Tables.{Tables}
use Rattle.state.specs.State.{started_of}
use Rattle.state.specs.declared.State.{State}
use Rattle.detector.specs.Feed.{feed_of}
use Rattle.reader.specs.Command.{read_of}
use Rattle.reader.specs.declared.command.Command.{Command}
use Rattle.reader.specs.declared.command.Command.TheVariants.{Start, Feed, Show, Lend, More, Bad}
use Rattle.play.specs.declared.input.Span.{Span}

-- the bytes at hand, as they stand in the window
abbrev pub at_hand : List ℕ → Span → List ℕ
at_hand window s = take (s.end - s.at) (drop s.at window)

-- a start begins anew, without a place where it is refused; a chunk is fed from behind its head of six bytes; all else, a command
-- still cut short among it, leaves the state as it was
abbrev pub state_by : Tables → State → List ℕ → Command → State
state_by t s xs (Start bits) = (started_of bits).state
state_by t s xs (Feed last n) = (feed_of t s (take n (drop 6 xs)) last).state
state_by t s xs Show = s
state_by t s xs Lend = s
state_by t s xs (More n) = s
state_by t s xs Bad = s

-- by the command with which the bytes at hand begin
abbrev pub state_after : Tables → State → List ℕ → State
state_after t s xs = state_by t s xs (read_of xs)

-- one command after the other, each with what was at hand when it was read
unfoldable pub played : Tables → State → List (List ℕ) → State
played t s [] = s
played t s (xs ∷ hands) = played t (state_after t s xs) hands

-- commands over these tables led from s to r
pub record Played (t : Tables) (s r : State) : Type 0 where
  pub hands : List (List ℕ)
  pub led : r ≡ played t s hands
