-- Which states are in order.
use Rattle.std.specs.Prelude.{◌≡◌, Bool, false, not, ◌&&◌, ◌||◌, ℕ, ◌≤◌, eqb, leb, ltb}
use Rattle.laws.specs.Limit.{limit}
use Rattle.laws.specs.Lists.{any}
use Rattle.context.specs.Context.{bytes_of}
use Rattle.context.specs.Head.{is_trigger}
use Rattle.context.specs.declared.Context.{Context}
use Rattle.places.specs.Order.{SlateFor, slate_b}
use Rattle.state.specs.State.{triggered}
use Rattle.state.specs.declared.front.Front.{Front}
use Rattle.state.specs.declared.State.{State}

-- at most two bytes, all ASCII, none 0x1B; what stands past them is not looked at
pub record Saved (c : Context) : Type 0 where
  pub two : c.len ≤ 2
  pub triggerless : any is_trigger (bytes_of c) ≡ false

-- no more than the bytes accepted, which are at most the limit; before any trigger, no byte from the end of the head on
pub record FrontFor (f : Front) : Type 0 where
  pub most : f.bytes ≤ limit
  pub counted : f.non_ascii_seen ≤ f.bytes
  pub held : f.context.len ≤ f.bytes
  pub bodied : f.body ≤ f.bytes
  pub headed : triggered f ≡ false → f.body ≡ 0
  pub saved : Saved f.context

pub record InOrder (s : State) : Type 0 where
  pub front : FrontFor s.front
  pub slate : SlateFor s.front.bytes s.front.body s.front.closed (triggered s.front) s.places

-- ---- the test
-- no trigger
unfoldable pub triggerless_b : ℕ → Bool
triggerless_b b = not (is_trigger b)

unfoldable pub saved_b : Context → Bool
saved_b c = leb c.len 2 && ((eqb c.len 0 || triggerless_b c.first) && (ltb c.len 2 || triggerless_b c.second))

unfoldable pub body_b : Front → Bool
body_b f = leb f.body f.bytes && (triggered f || eqb f.body 0)

unfoldable pub front_b : Front → Bool
front_b f = leb f.bytes limit && (leb f.non_ascii_seen f.bytes && (leb f.context.len f.bytes && (body_b f && saved_b f.context)))

unfoldable pub state_b : State → Bool
state_b s = front_b s.front && slate_b s.front.bytes s.front.body s.front.closed (triggered s.front) s.places
