-- A refused chunk changes nothing.
use Rattle.std.specs.Prelude.{◌≡◌, Bool, List, ℕ, Err}
use Rattle.std.proofs.Common.{sym, ap}
use Rattle.tables.specs.Tables.{Tables}
use Rattle.places.specs.declared.place.Place.{Place}
use Rattle.detector.specs.Feed.{refusal_of}
use Rattle.detector.specs.FeedLaws.{feed_refused}
use Rattle.detector.specs.declared.feed.Fed.{Fed}
use Rattle.state.specs.declared.reply.Reply.{Reply}
use Rattle.state.specs.declared.front.Front.{Front}
use Rattle.thin.specs.Thin.{thin_as, thin_of, front_after}

module _ (t : Tables) (f : Front) (ps : List Place) (xs : List ℕ) (last : Bool) (r : Reply) (e : Err r ≡ refusal_of t (record { front = f; places = ps }) xs) where
  pub refused_front : front_after t f ps xs last ≡ f
  refused_front = ap (λ (d : Fed). d.state.front) (sym (feed_refused t (record { front = f; places = ps }) xs last r e))

  pub refused_gives : thin_of t f ps xs last ≡ record { places = ps; reply = r }
  refused_gives = ap thin_as (sym (feed_refused t (record { front = f; places = ps }) xs last r e))
