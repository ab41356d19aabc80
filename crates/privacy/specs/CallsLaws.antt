-- A stream of accepted calls is a chain of advances, and only its final call closes.
use Rattle.std.specs.Prelude.{◌≡◌, Bool, cond, List, [], ◌∷◌, ℕ, ◌+◌, ltb, Ok, Err}
use Rattle.std.proofs.Math.Path.{refl, ap}
use Rattle.std.proofs.Common.{sym, ◌∙◌, arith}
use Rattle.std.proofs.Math.Bool.{true, false}
use Rattle.std.proofs.Math.ListN.{length}
use Rattle.laws.specs.Limit.{limit}
use Rattle.tables.specs.Tables.{Tables, sized_b}
use Rattle.state.specs.Order.{state_b}
use Rattle.state.specs.Reply.{number_of}
use Rattle.state.specs.State.{flag_of}
use Rattle.state.specs.declared.State.{State}
use Rattle.state.specs.declared.reply.Reply.TheVariants.{Closed, WrongLength, TooLong, NotInOrder}
use Rattle.detector.specs.Feed.{Verdict, verdict_of, refusal_of, advance_of, feed_by}
use Rattle.detector.specs.FeedLaws.{accept_passed, feed_accepted}
use Rattle.detector.specs.Kept.{Passed}
use Rattle.detector.specs.declared.feed.Fed.{Fed}
use Rattle.privacy.specs.Privacy.{Call, state_after, after_calls, Accepted, AllAccepted}

-- ---- one call
module _ (t : Tables) (s : State) (c : Call) where
  -- by what the four tests say
  abbrev judged_by : Bool → Bool → Bool → Bool → Verdict
  judged_by in_order closed sized long =
      cond in_order
      (cond closed (Err (Closed (flag_of s.front)))
      (cond sized
      (cond long (Err (TooLong (flag_of s.front))) (Ok tt))
      (Err (WrongLength (flag_of s.front)))))
      (Err NotInOrder)

  only_accept : (in_order closed sized long : Bool) → number_of (feed_by t s c.chunk c.is_last (judged_by in_order closed sized long)).reply ≡ 0 → Ok tt ≡ judged_by in_order closed sized long
  unfolding feed_by number_of
  only_accept false closed sized long e = absurd (omega (arith, e))
  only_accept true true sized long e = absurd (omega (arith, e))
  only_accept true false false long e = absurd (omega (arith, e))
  only_accept true false true true e = absurd (omega (arith, e))
  only_accept true false true false e = refl

  module _ (a : Accepted t s c) where
    accept_is : Ok tt ≡ refusal_of t s c.chunk
    unfolding verdict_of
    accept_is = only_accept (state_b s) s.front.closed (sized_b t) (ltb limit (s.front.bytes + length c.chunk)) a

    pub accepted_fit : Passed t s c.chunk
    accepted_fit = accept_passed t s c.chunk accept_is

    pub accepted_advances : state_after t s c ≡ advance_of t s c.chunk c.is_last
    accepted_advances = sym (ap (λ (f : Fed). f.state) (feed_accepted t s c.chunk c.is_last accept_is))

    accepted_closes : (state_after t s c).front.closed ≡ c.is_last
    unfolding advance_of
    accepted_closes = ap (λ (x : State). x.front.closed) accepted_advances

-- ---- all calls
unfoldable pub advanced : Tables → State → List Call → State
advanced t s [] = s
advanced t s (c ∷ cs) = advanced t (advance_of t s c.chunk c.is_last) cs

pub calls_advance : (t : Tables) (s : State) (calls : List Call) → AllAccepted t s calls → after_calls t s calls ≡ advanced t s calls
unfolding after_calls advanced
calls_advance t s [] a = refl
calls_advance t s (c ∷ cs) a = calls_advance t (state_after t s c) cs a.1 ∙ ap (λ (x : State). advanced t x cs) (accepted_advances t s c a.0)

-- there is a final call, and it is the only one that closes
abbrev pub OnlyFinal : List Call → Type 0
OnlyFinal [] = ⊥
OnlyFinal (c ∷ []) = c.is_last ≡ true
OnlyFinal (c ∷ d ∷ ds) = (c.is_last ≡ false) × OnlyFinal (d ∷ ds)

differ : {A : Type 0} → false ≡ true → A
differ e = absurd (let z : ◌≡◌ {A = ℕ} 0 1 = cc in omega arith)

pub final_closes : (t : Tables) (s : State) (calls : List Call) → s.front.closed ≡ false → AllAccepted t s calls → (after_calls t s calls).front.closed ≡ true → OnlyFinal calls
unfolding after_calls
final_closes t s [] o a e = differ (sym o ∙ e)
final_closes t s (c ∷ []) o a e = sym (accepted_closes t s c a.0) ∙ e
final_closes t s (c ∷ d ∷ ds) o a e =
    let next = (accepted_fit t (state_after t s c) d a.1.0).going in
    (sym (accepted_closes t s c a.0) ∙ next, final_closes t (state_after t s c) (d ∷ ds) next a.1 e)
