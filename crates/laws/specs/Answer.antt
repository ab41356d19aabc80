-- What a machine answers to a public call: the record and by how much the score changed, or why there is none.
use Rattle.std.specs.Prelude.{◌≡◌, Bool, true, false, cond, ℕ, ◌≤◌, ℤ, nat_abs, Result, Ok, Err, IfOk}
use Rattle.laws.specs.declared.Stop.{Stop}
use Rattle.laws.specs.declared.Stop.TheVariants.{Dropped, Unfit}
use Rattle.laws.specs.Run.{Outcome, none, live}

abbrev pub Ran : Type 0 → Type 0
Ran S = Result (S × ℤ) Stop

-- ---- from an outcome; a drop-out is told with where in the stretch it happened
abbrev pub answered : {S : Type 0} → ℕ → Outcome S → Ran S
answered at (none d) = Err (Dropped d at)
answered at (live m s) = Ok (m, s)

-- of a machine whose score never changes
abbrev pub reached : {S : Type 0} → ℕ → Outcome S → Result S Stop
reached at (none d) = Err (Dropped d at)
reached at (live m s) = Ok m

-- ---- behind the test at the entry of a call
unfoldable pub tested : {R : Type 0} → Bool → Result R Stop → Result R Stop
tested fit r = cond fit r (Err Unfit)

module _ {R : Type 0} (fit : Bool) (r : Result R Stop) where
  pub if_fit : fit ≡ true → tested fit r ≡ r
  unfolding tested
  if_fit e = rw e

  pub if_unfit : fit ≡ false → tested fit r ≡ Err Unfit
  unfolding tested
  if_unfit e = rw e

-- ---- what holds of the record and of the change of the score, where there is a record
abbrev pub Told : {S : Type 0} → (S → ℤ → Type 0) → Ran S → Type 0
Told P r = IfOk r (λ a. P a.0 a.1)

pub told : {S : Type 0} {P : S → ℤ → Type 0} → ((m : S) (s : ℤ) → P m s) → (r : Ran S) → Told P r
told h (Ok a) = h a.0 a.1
told h (Err e) = tt

-- the score changes by at most c
abbrev pub BoundedBy : {S : Type 0} → ℕ → Ran S → Type 0
BoundedBy c r = Told (λ m s. nat_abs s ≤ c) r
