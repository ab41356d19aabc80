-- The in-order test decides, and a start is in order.
use Rattle.std.specs.Prelude.{◌≡◌, refl, Bool, true, false, not, ◌||◌, [], ◌∷◌, ℕ, zero, suc, ◌≤◌, eqb, ltb, take}
use Rattle.std.proofs.Common.{ap, arith, eq-eqb, eqb-true, ne_eqb, leb-true, le-leb, le-ltb}
use Rattle.laws.specs.Lists.{any}
use Rattle.laws.specs.Tests.{both, neither, off}
use Rattle.context.specs.Context.{context_of}
use Rattle.context.specs.Head.{is_trigger}
use Rattle.context.specs.declared.Context.{Context}
use Rattle.places.specs.OrderLaws.{slate_true, true_slate}
use Rattle.places.specs.SlateLaws.{start_for}
use Rattle.state.specs.Order.{Saved, FrontFor, InOrder, triggerless_b, saved_b, body_b, front_b, state_b}
use Rattle.state.specs.State.{triggered, start_of}
use Rattle.state.specs.declared.State.{State}
use Rattle.state.specs.declared.front.Front.{Front}

-- ---- the test decides, in both directions
triggerless_true : (b : ℕ) → triggerless_b b ≡ true → is_trigger b ≡ false
unfolding triggerless_b
triggerless_true b e = off (is_trigger b) e

true_triggerless : (b : ℕ) → is_trigger b ≡ false → triggerless_b b ≡ true
unfolding triggerless_b
true_triggerless b e = ap not e

-- the bytes of a context, by its length
saved_at : (n a b : ℕ) → (eqb n 0 || triggerless_b a) ≡ true → (ltb n 2 || triggerless_b b) ≡ true → n ≤ 2 → any is_trigger (take n (a ∷ b ∷ [])) ≡ false
unfolding any
saved_at zero a b p q h = refl
saved_at (suc zero) a b p q h = rw (triggerless_true a p)
saved_at (suc (suc zero)) a b p q h = rw (triggerless_true a p, triggerless_true b q)
saved_at (suc (suc (suc n))) a b p q h = absurd (omega (arith, h))

first_at : (n a b : ℕ) → any is_trigger (take n (a ∷ b ∷ [])) ≡ false → (eqb n 0 || triggerless_b a) ≡ true
unfolding any
first_at zero a b e = refl
first_at (suc zero) a b e = true_triggerless a (neither (is_trigger a) _ e).0
first_at (suc (suc n)) a b e = rw (ne_eqb (suc (suc n)) 0 (λ (q : suc (suc n) ≡ 0). omega (arith, q))) (true_triggerless a (neither (is_trigger a) _ e).0)

second_at : (n a b : ℕ) → any is_trigger (take n (a ∷ b ∷ [])) ≡ false → (ltb n 2 || triggerless_b b) ≡ true
unfolding any
second_at zero a b e = refl
second_at (suc zero) a b e = refl
second_at (suc (suc n)) a b e = rw (le-ltb (suc (suc n)) 2 (omega arith)) (true_triggerless b (neither (is_trigger b) _ (neither (is_trigger a) _ e).1).0)

saved_true : (c : Context) → saved_b c ≡ true → Saved c
unfolding saved_b
saved_true c e =
    let x = both _ _ e in
    let y = both _ _ x.1 in
    let h = leb-true _ _ x.0 in
    record { two = h; triggerless = saved_at c.len c.first c.second y.0 y.1 h }

true_saved : (c : Context) → Saved c → saved_b c ≡ true
unfolding saved_b
true_saved c s = rw (le-leb _ _ s.two, first_at c.len c.first c.second s.triggerless, second_at c.len c.first c.second s.triggerless)

-- the bytes from the end of the head on, none where t is false
none_headed : (n : ℕ) (t : Bool) → (t || eqb n 0) ≡ true → t ≡ false → n ≡ 0
none_headed n t e q = eqb-true n 0 (rw q at e)

headed_none : (n : ℕ) (t : Bool) → (t ≡ false → n ≡ 0) → (t || eqb n 0) ≡ true
headed_none n true h = refl
headed_none n false h = eq-eqb n 0 (h refl)

true_body : (f : Front) → FrontFor f → body_b f ≡ true
unfolding body_b
true_body f o = rw (le-leb _ _ o.bodied, headed_none f.body (triggered f) o.headed)

front_true : (f : Front) → front_b f ≡ true → FrontFor f
unfolding front_b body_b
front_true f e =
    let a = both _ _ e in
    let b = both _ _ a.1 in
    let c = both _ _ b.1 in
    let d = both _ _ c.1 in
    let h = both _ _ d.0 in
    record {
      most = leb-true _ _ a.0;
      counted = leb-true _ _ b.0;
      held = leb-true _ _ c.0;
      bodied = leb-true _ _ h.0;
      headed = none_headed f.body (triggered f) h.1;
      saved = saved_true f.context d.1;
    }

true_front : (f : Front) → FrontFor f → front_b f ≡ true
unfolding front_b
true_front f o = rw (le-leb _ _ o.most, le-leb _ _ o.counted, le-leb _ _ o.held, true_body f o, true_saved f.context o.saved)

-- The test decides the definition.
pub order_true : (s : State) → state_b s ≡ true → InOrder s
unfolding state_b
order_true s e =
    let a = both _ _ e in
    record { front = front_true s.front a.0; slate = slate_true s.front.bytes s.front.body s.front.closed (triggered s.front) s.places a.1 }

pub true_order : (s : State) → InOrder s → state_b s ≡ true
unfolding state_b
true_order s o = rw (true_front s.front o.front, true_slate s.front.bytes s.front.body s.front.closed (triggered s.front) s.places o.slate)

-- ---- a start
pub empty_saved : Saved (context_of [])
unfolding any
empty_saved = record { two = omega arith; triggerless = refl }

pub start_in_order : (bits : ℕ) → InOrder (start_of bits)
start_in_order bits =
    record {
      front = record { most = omega arith; counted = omega arith; held = omega arith; bodied = omega arith; headed = λ e. refl; saved = empty_saved };
      slate = start_for bits;
    }
