-- The command with which bytes begin.
use Rattle.std.specs.Prelude.{Bool, cond, List, ℕ, ◌+◌, ◌-◌, eqb, ltb, length, get_or}
use Rattle.reader.specs.Little.{little_at}
use Rattle.reader.specs.declared.command.Command.{Command}
use Rattle.reader.specs.declared.command.Command.TheVariants.{Start, Feed, Show, Lend, More, Bad}

-- `S`: sixteen bits, which places take part
unfoldable pub start_read : List ℕ → Command
start_read xs = cond (ltb (length xs) 3) (More 3) (Start (little_at 2 xs 1))

-- a chunk of n bytes, of which so many are at hand
unfoldable pub chunk_of : Bool → ℕ → ℕ → Command
chunk_of last n there = cond (ltb 65536 n) Bad (cond (ltb there n) (More (6 + n)) (Feed last n))

-- `F`: last, 0 or 1; length; the chunk
unfoldable pub feed_read : List ℕ → Command
feed_read xs =
    cond
    (ltb (length xs) 6)
    (More 6)
    (cond
    (ltb 1 (get_or xs 1 0))
    Bad
    (chunk_of (eqb (get_or xs 1 0) 1) (little_at 4 xs 2) (length xs - 6)))

-- by the first byte: `S`, `F`, `Q`, `T`
unfoldable pub read_of : List ℕ → Command
read_of xs =
    cond
    (ltb (length xs) 1)
    (More 1)
    (cond
    (eqb (get_or xs 0 0) 0x53)
    (start_read xs)
    (cond
    (eqb (get_or xs 0 0) 0x46)
    (feed_read xs)
    (cond (eqb (get_or xs 0 0) 0x51) Show (cond (eqb (get_or xs 0 0) 0x54) Lend Bad))))
