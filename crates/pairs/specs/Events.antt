-- What the scoring machines see of a decoder's result: an event, and the lead after it. Here document 01 departs from the
-- Standard: the ASCII byte that the Standard restores, to be read again, is not decoded again, and is no part of the error.
use Rattle.std.specs.Prelude.{cond, ℕ, ◌-◌, eqb, length}
use Rattle.laws.specs.Handler.{byte, Result, continue, code_point, error, finished, vars_of}
use Rattle.pairs.specs.Pairs.{decoded}
use Rattle.pairs.specs.Standard.{CodePoints, null, one, two, Layout, first, returned, handler}
use Rattle.pairs.specs.declared.Decoded.{Decoded}
use Rattle.pairs.specs.declared.Event.{Event}
use Rattle.pairs.specs.declared.Event.TheVariants.{Pending, Point, Two, Error}

-- null is never returned
unfoldable pub points_as : CodePoints → Event
points_as null = Pending
points_as (one p) = Point p
points_as (two p q) = Two p q

-- an error is as long as the bytes read since the last result, but those that are restored
unfoldable pub event_of : ℕ → Result CodePoints ℕ → Event
event_of read (continue lead) = Pending
event_of read (code_point points lead) = points_as points
event_of read (error restored lead) = Error (read - length restored)
event_of read (finished lead) = Pending

abbrev pub seen_as : ℕ → Result CodePoints ℕ → Decoded
seen_as read result = decoded (vars_of result) (event_of read result)

-- a byte, alone or after a lead
abbrev pub seen_by : Layout → (ℕ → CodePoints) → ℕ → ℕ → Decoded
seen_by e points lead b = seen_as (cond (eqb lead 0) 1 2) (handler e points lead (byte b))

-- ---- its parts, as the code has them
-- a byte where no lead is pending
abbrev pub first_of : ℕ → Decoded
first_of b = seen_as 1 (first b)

-- a byte that makes no pair with its lead
abbrev pub malformed_of : ℕ → Event
malformed_of b = event_of 2 (returned b null)
