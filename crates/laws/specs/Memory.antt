-- What a machine forgets. Where it neither drops out nor scores at a byte that passes a test, and two such bytes leave nothing of
-- what it knew before them, a stretch of them leaves what its last two leave.
use Rattle.std.specs.Prelude.{◌≡◌, Bool, true, false, not, ◌&&◌, ℕ, zero, suc, ◌≤◌, ℤ, pos, length, drop}
use Rattle.std.proofs.Math.Path.{refl, ap}
use Rattle.std.proofs.Common.{not-suc-le-zero, arith, length-drop}
use mathlib.Core.List.{List, [], ◌∷◌}
use Rattle.std.proofs.Math.IntN.{+ℤ_idr}
use Rattle.laws.specs.Lists.{any, last}
use Rattle.laws.specs.Run.{Out, live, plus, with_byte, run}
use Rattle.laws.specs.Tests.{both, neither}

-- each of the bytes passes
unfoldable pub all : (ℕ → Bool) → List ℕ → Bool
all q [] = true
all q (b ∷ bs) = q b && all q bs

-- from fresh, a run over bytes that all pass is the run over the last two of them; it lives with the score that it had, and with
-- the same record whatever the score
pub record Forgets {D S : Type 0} (q : ℕ → Bool) (step : S → ℕ → Out D S) (fresh : S) : Type 0 where
  pub last_two : (s : ℤ) (bs : List ℕ) → all q bs ≡ true → run step (live fresh s) bs ≡ run step (live fresh s) (last 2 bs)
  pub lives : (bs : List ℕ) → all q bs ≡ true → (m : S) × ((s : ℤ) → run step (live fresh s) bs ≡ live m s)

-- why it does: while bytes pass, the record is the one of what was seen of them, and of what was seen before two bytes nothing
-- is left
pub record Quiet {D S K : Type 0} (q : ℕ → Bool) (step : S → ℕ → Out D S) (holding : K → S) (seen : K → ℕ → K) : Type 0 where
  pub steps : (k : K) (b : ℕ) → q b ≡ true → step (holding k) b ≡ live (holding (seen k b)) (pos 0)
  pub forgotten : (k l : K) (a b : ℕ) → seen (seen k a) b ≡ seen (seen l a) b

pub all_drop : (q : ℕ → Bool) (n : ℕ) (bs : List ℕ) → all q bs ≡ true → all q (drop n bs) ≡ true
unfolding all
all_drop q zero bs e = e
all_drop q (suc n) [] e = e
all_drop q (suc n) (b ∷ bs) e = all_drop q n bs (both (q b) (all q bs) e).1

-- ---- a test that is passed less often
module _ {p q : ℕ → Bool} (implies : (b : ℕ) → p b ≡ true → q b ≡ true) where
  all_more : (bs : List ℕ) → all p bs ≡ true → all q bs ≡ true
  unfolding all
  all_more [] e = refl
  all_more (b ∷ bs) e = let h = both (p b) (all p bs) e in rw (implies b h.0, all_more bs h.1)

  pub forgets_less : {D S : Type 0} {step : S → ℕ → Out D S} {fresh : S} → Forgets q step fresh → Forgets p step fresh
  forgets_less f = record { last_two = λ s bs e. f.last_two s bs (all_more bs e); lives = λ bs e. f.lives bs (all_more bs e) }

-- none passes one test, and none another
pub all_neither : (p r : ℕ → Bool) (bs : List ℕ) → any p bs ≡ false → any r bs ≡ false → all (λ b. not (p b) && not (r b)) bs ≡ true
unfolding all any
all_neither p r [] e f = refl
all_neither p r (b ∷ bs) e f =
    let g = neither (p b) (any p bs) e in
    let h = neither (r b) (any r bs) f in
    rw (g.0, h.0) (all_neither p r bs g.1 h.1)

pub two_left : (bs : List ℕ) → 2 ≤ length bs → 2 ≤ length (last 2 bs)
unfolding last
two_left bs h = rw length-drop (omega arith)

-- ---- what is quiet forgets
module _ {D S K : Type 0} {q : ℕ → Bool} {step : S → ℕ → Out D S} {holding : K → S} {seen : K → ℕ → K} (quiet : Quiet q step holding seen) where
  -- what was seen after the bytes; the record is the one of that
  unfoldable pub seen_after : K → List ℕ → K
  seen_after k [] = k
  seen_after k (b ∷ bs) = seen_after (seen k b) bs

  pub quiet_run : (k : K) (s : ℤ) (bs : List ℕ) → all q bs ≡ true → run step (live (holding k) s) bs ≡ live (holding (seen_after k bs)) s
  unfolding all run with_byte plus seen_after
  quiet_run k s [] e = refl
  quiet_run k s (b ∷ bs) e = let h = both (q b) (all q bs) e in rw (quiet.steps k b h.0, +ℤ_idr) (quiet_run (seen k b) s bs h.1)

  pub seen_same : (k l : K) (bs : List ℕ) → 2 ≤ length bs → seen_after k bs ≡ seen_after l bs
  unfolding seen_after
  seen_same k l [] h = absurd (not-suc-le-zero h)
  seen_same k l (a ∷ []) h = absurd (omega (arith, h))
  seen_same k l (a ∷ b ∷ bs) h = ap (λ (x : K). seen_after x bs) (quiet.forgotten k l a b)
