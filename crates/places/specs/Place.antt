-- A place: one machine under its kind, beside its score; and what a part of a chunk and the end of the stream make of it.
use Rattle.std.specs.Prelude.{ℕ, ◌+◌, ◌-◌, Bool, cond, List, length, Ok, Err}
use Rattle.laws.specs.Run.{Outcome, none, live, plus, run, ends_at}
use Rattle.kinds.specs.Kinds.{fresh_of, step_of, close_of}
use Rattle.kinds.specs.Sound.{takes_space}
use Rattle.tables.specs.Own.{Own}
use Rattle.kinds.specs.declared.machine.Machine.{Machine}
use Rattle.places.specs.declared.place.Place.{Place}
use Rattle.places.specs.Score.{Score, no_score}

abbrev pub place : Machine → Score → Place
place m s = record { machine = m; score = s }

-- the machine and the score of an outcome; a drop-out leaves the fresh machine of the kind, the reason and the place of the byte
unfoldable pub place_as : Machine → ℕ → Outcome Machine → Place
place_as m at (none d) = place (fresh_of m) (no_score d at)
place_as m at (live n s) = place n (Ok s)

-- ---- a part of a chunk, over the place's own tables
-- the place of the byte at which a part ends, counted from 1 at the first byte after the head: `body` bytes from the end of the
-- head on have come, those of the part among them, and those after the byte are left; a byte of the head has place 0
abbrev pub byte_at : ℕ → List ℕ → ℕ → ℕ
byte_at body xs at = body - (length xs - at)

unfoldable pub ran_from : Own → ℕ → List ℕ → Place → Score → Place
ran_from t body xs p (Err why) = p
ran_from t body xs p (Ok s) =
    let o = live p.machine s in
    place_as p.machine (byte_at body xs (ends_at (step_of t) o xs)) (run (step_of t) o xs)

abbrev pub part_of : Own → ℕ → List ℕ → Place → Place
part_of t body xs p = ran_from t body xs p p.score

-- ---- the end of the stream: a cut has the count of the bytes from the end of the head on, a closing space one more
abbrev pub end_at : Machine → ℕ → ℕ
end_at m body = cond (takes_space m) (body + 1) body

unfoldable pub end_from : Own → ℕ → Place → Score → Place
end_from t body p (Err why) = p
end_from t body p (Ok s) = place_as p.machine (end_at p.machine body) (plus s (close_of t p.machine))

abbrev pub end_of : Own → ℕ → Place → Place
end_of t body p = end_from t body p p.score

-- ---- a part that is the last one or not: a place whose score is already none is passed over; otherwise its score becomes the
-- sum, or none
abbrev pub feed_of : Own → Bool → ℕ → List ℕ → Place → Place
feed_of t last body xs p = cond last (end_of t body (part_of t body xs p)) (part_of t body xs p)
