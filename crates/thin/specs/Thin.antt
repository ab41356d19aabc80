-- The thin form of a feed: the front in the caller's record, the places by value.
use Rattle.std.specs.Prelude.{Bool, List, ℕ}
use Rattle.tables.specs.Tables.{Tables}
use Rattle.places.specs.declared.place.Place.{Place}
use Rattle.detector.specs.Feed.{feed_of}
use Rattle.detector.specs.declared.feed.Fed.{Fed}
use Rattle.state.specs.declared.front.Front.{Front}
use Rattle.thin.specs.declared.Stepped.{Stepped}
use Rattle.thin.specs.declared.Thin.{Thin}

-- the feed of the state that the caller's record and the places make
abbrev pub fed_of : Tables → Front → List Place → List ℕ → Bool → Fed
fed_of t f ps xs last = feed_of t (record { front = f; places = ps }) xs last

-- what is given
abbrev pub thin_as : Fed → Thin
thin_as f = record { places = f.state.places; reply = f.reply }

abbrev pub thin_of : Tables → Front → List Place → List ℕ → Bool → Thin
thin_of t f ps xs last = thin_as (fed_of t f ps xs last)

-- what the caller's record holds afterwards
abbrev pub front_after : Tables → Front → List Place → List ℕ → Bool → Front
front_after t f ps xs last = (fed_of t f ps xs last).state.front

-- both
abbrev pub stepped_as : Fed → Stepped
stepped_as f = record { front = f.state.front; thin = thin_as f }

abbrev pub stepped_of : Tables → Front → List Place → List ℕ → Bool → Stepped
stepped_of t f ps xs last = stepped_as (fed_of t f ps xs last)
