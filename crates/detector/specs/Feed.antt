-- What a feed replies, what it gives and what it leaves.
use Rattle.std.specs.Prelude.{Bool, false, cond, List, ℕ, ◌+◌, ltb, length, Result, Ok, Err}
use Rattle.laws.specs.Limit.{limit}
use Rattle.tables.specs.Tables.{Tables, sized_b}
use Rattle.places.specs.Slate.{feed_all}
use Rattle.places.specs.declared.place.Place.{Place}
use Rattle.state.specs.State.{flag_of}
use Rattle.detector.specs.Front.{Reaches, none, some, reaches_of, front_of}
use Rattle.state.specs.Order.{state_b}
use Rattle.detector.specs.declared.feed.Fed.{Fed}
use Rattle.state.specs.declared.reply.Reply.{Reply}
use Rattle.state.specs.declared.reply.Reply.TheVariants.{Accepted, Closed, WrongLength, TooLong, NotInOrder}
use Rattle.state.specs.declared.State.{State}

-- ---- the tests, 4, 1, 2, 3: the state, the close, the lent lengths, the bytes accepted and this chunk's
abbrev pub Verdict : Type 0
Verdict = Result (Unit {0}) Reply

unfoldable pub verdict_of : State → Bool → ℕ → Verdict
verdict_of s sized n =
    cond (state_b s)
    (cond s.front.closed (Err (Closed (flag_of s.front)))
    (cond sized
    (cond (ltb limit (s.front.bytes + n)) (Err (TooLong (flag_of s.front))) (Ok tt))
    (Err (WrongLength (flag_of s.front)))))
    (Err NotInOrder)

abbrev pub refusal_of : Tables → State → List ℕ → Verdict
refusal_of t s xs = verdict_of s (sized_b t) (length xs)

-- ---- the advance: the saved context's bytes, not as last, and then the chunk's; `body` bytes from the end of the head on have
-- come with the chunk's, and none with the context's
unfoldable pub places_by : Tables → Bool → ℕ → List Place → Reaches → List Place
places_by t last body ps none = ps
places_by t last body ps (some before part) = feed_all t last body part (feed_all t false 0 before ps)

unfoldable pub advance_of : Tables → State → List ℕ → Bool → State
advance_of t s xs last =
    record { front = front_of s.front xs last; places = places_by t last (front_of s.front xs last).body s.places (reaches_of s.front xs) }

-- ---- a feed: refused, and the state as before; or accepted
abbrev pub fed : State → Reply → Fed
fed s r = record { state = s; reply = r }

abbrev pub accepted : State → Fed
accepted s = fed s (Accepted (flag_of s.front))

unfoldable pub feed_by : Tables → State → List ℕ → Bool → Verdict → Fed
feed_by t s xs last (Err r) = fed s r
feed_by t s xs last (Ok u) = accepted (advance_of t s xs last)

abbrev pub feed_of : Tables → State → List ℕ → Bool → Fed
feed_of t s xs last = feed_by t s xs last (refusal_of t s xs)
