-- The Encoding Standard's decoders as far as a validator goes: up to the first error, so that what is restored is not read again.
-- A machine that agrees with a decoder at every item agrees with it over a whole stream.
use Rattle.std.specs.Prelude.{◌≡◌, ℕ, pos}
use mathlib.Core.List.{List, [], ◌∷◌}
use Rattle.laws.specs.Handler.{Item, end_of_queue, byte, Result, continue, code_point, error, finished, vars_of}
use Rattle.laws.specs.declared.Reason.{Reason}
use Rattle.laws.specs.Run.{Outcome, none, live}

-- what the code point is does not matter, only whether there is one
abbrev pub Verdict : Type 0 → Type 0
Verdict Vars = Result (Unit {0}) Vars

-- what the variables can be: the initial ones, and those after any byte, error or not, from ones that they can be
pub data ReachedBy {P Vars : Type 0} (handler : Vars → Item → Result P Vars) (initial : Vars) : Vars → Type 0 where
  at_start : ReachedBy handler initial initial
  on : {d : Vars} → ReachedBy handler initial d → (b : ℕ) → ReachedBy handler initial (vars_of (handler d (byte b)))

-- a validator stops at an error, and goes on from all else
unfoldable pub unless_error : {P Vars A : Type 0} → Result P Vars → A → (Vars → A) → A
unless_error (continue d) stop next = next d
unless_error (code_point p d) stop next = next d
unless_error (error restored d) stop next = stop
unless_error (finished d) stop next = next d

-- the bytes and then the end, up to the first error
unfoldable pub decoded_by : {P Vars : Type 0} → (Vars → Item → Result P Vars) → Vars → List ℕ → Result P Vars
decoded_by handler d [] = handler d end_of_queue
decoded_by handler d (b ∷ bs) = unless_error (handler d (byte b)) (handler d (byte b)) (λ d'. decoded_by handler d' bs)

-- the item that is read last, the first error's or the end, and what is told of it and of the variables before it
unfoldable pub last_by : {P Vars A : Type 0} → (Vars → Item → Result P Vars) → (Vars → Item → A) → Vars → List ℕ → A
last_by handler told d [] = told d end_of_queue
last_by handler told d (b ∷ bs) = unless_error (handler d (byte b)) (told d (byte b)) (λ d'. last_by handler told d' bs)

-- an error drops a machine out, for a reason; all else leaves it alive, with its score as it was and the record of the variables
unfoldable pub outcome_by : {P Vars S : Type 0} → (Vars → S) → Reason → Result P Vars → Outcome S
outcome_by record_of why (continue d) = live (record_of d) (pos 0)
outcome_by record_of why (code_point p d) = live (record_of d) (pos 0)
outcome_by record_of why (error restored d) = none why
outcome_by record_of why (finished d) = live (record_of d) (pos 0)

-- ---- from each item to a whole stream; the reason of a drop-out follows from the variables before the item
module _ {P Vars S : Type 0} (handler : Vars → Item → Result P Vars) (initial : Vars) (record_of : Vars → S) (reason_of : Vars → Item → Reason) (step : S → ℕ → Outcome S) (close : S → Outcome S) where
  abbrev pub AgreesAt : Vars → Type 0
  AgreesAt d = ((b : ℕ) → step (record_of d) b ≡ outcome_by record_of (reason_of d (byte b)) (handler d (byte b))) × (close (record_of d) ≡ outcome_by record_of (reason_of d end_of_queue) (handler d end_of_queue))
