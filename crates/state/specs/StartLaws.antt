-- A start is refused just where a bit is set that no place has. Then no place takes part, and the state is in order like any other.
use Rattle.std.specs.Prelude.{◌≡◌, refl, ℕ, ◌^◌, ◌<◌, ◌≤◌, ltb}
use Rattle.std.proofs.Common.{lt-ltb, le-ltb}
use Rattle.laws.specs.Each.{EachFrom}
use Rattle.laws.specs.Tests.{either}
use Rattle.laws.specs.declared.Reason.TheVariants.{NotInSlate}
use Rattle.tables.specs.Own.{place_count}
use Rattle.places.specs.Slate as slate
use Rattle.places.specs.declared.place.Place.{Place}
use Rattle.state.specs.Order.{InOrder}
use Rattle.state.specs.OrderLaws.{start_in_order}
use Rattle.state.specs.State.{start_of, started_of}
use Rattle.state.specs.declared.Started.{Started}
use Rattle.state.specs.declared.reply.StartReply.TheVariants.{Accepted, NoSuchPlace}
use Rattle.places.specs.Score.{no_score}

module _ (bits : ℕ) where
  pub start_accepted : bits < 2 ^ place_count → started_of bits ≡ record { state = start_of bits; reply = Accepted }
  unfolding started_of
  start_accepted h = rw (lt-ltb bits (2 ^ place_count) h)

  pub start_refused : 2 ^ place_count ≤ bits → started_of bits ≡ record { state = start_of 0; reply = NoSuchPlace }
  unfolding started_of
  start_refused h = rw (le-ltb bits (2 ^ place_count) h)

  pub started_in_order : InOrder (started_of bits).state
  unfolding started_of
  started_in_order = either (λ (s : Started). InOrder s.state) (ltb bits (2 ^ place_count)) (λ e. start_in_order bits) (λ e. start_in_order 0)

pub none_takes_part : EachFrom (λ (k : ℕ) (p : Place). p.score ≡ no_score NotInSlate 0) 0 (start_of 0).places
unfolding slate.start_of
none_takes_part = (refl, (refl, (refl, (refl, (refl, (refl, (refl, (refl, (refl, tt)))))))))
