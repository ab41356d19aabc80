-- A machine that agrees with a decoder of the Encoding Standard at every item agrees with it over a whole stream.
use Rattle.std.specs.Prelude.{◌≡◌, ℕ, pos}
use Rattle.std.proofs.Math.Path.{ap}
use Rattle.std.proofs.Common.{◌∙◌}
use mathlib.Core.List.{List, [], ◌∷◌}
use Rattle.laws.specs.Handler.{Item, byte, Result, continue, code_point, error, finished, vars_of}
use Rattle.laws.specs.declared.Reason.{Reason}
use Rattle.laws.specs.Run.{Outcome, live, run, run_nil, plus_zero, ended}
use Rattle.laws.specs.Still.{run_first}
use Rattle.laws.specs.Validator.{ReachedBy, on, unless_error, decoded_by, last_by, outcome_by, AgreesAt}
use Rattle.laws.proofs.Still.{run_drops}

-- ---- from each item to a whole stream; the reason of a drop-out follows from the variables before the item
module _ {P Vars S : Type 0} (handler : Vars → Item → Result P Vars) (initial : Vars) (record_of : Vars → S) (reason_of : Vars → Item → Reason) (step : S → ℕ → Outcome S) (close : S → Outcome S) where
  module _ (agrees : (d : Vars) → ReachedBy handler initial d → AgreesAt handler initial record_of reason_of step close d) where
    abbrev Decodes : Vars → List ℕ → Type 0
    Decodes d xs = ended close (run step (live (record_of d) (pos 0)) xs) ≡ outcome_by record_of (last_by handler reason_of d xs) (decoded_by handler d xs)

    goes_on : (d : Vars) (b : ℕ) (bs : List ℕ) (why : Reason) (r : Result P Vars) → step (record_of d) b ≡ outcome_by record_of why r → Decodes (vars_of r) bs → ended close (run step (live (record_of d) (pos 0)) (b ∷ bs)) ≡ outcome_by record_of (unless_error r why (λ d'. last_by handler reason_of d' bs)) (unless_error r r (λ d'. decoded_by handler d' bs))
    unfolding outcome_by vars_of unless_error ended
    goes_on d b bs why (continue e) p q = ap (ended close) (run_first step (record_of d) (record_of e) b bs p) ∙ q
    goes_on d b bs why (code_point c e) p q = ap (ended close) (run_first step (record_of d) (record_of e) b bs p) ∙ q
    goes_on d b bs why (error restored e) p q = ap (ended close) (run_drops step (record_of d) why b bs p)
    goes_on d b bs why (finished e) p q = ap (ended close) (run_first step (record_of d) (record_of e) b bs p) ∙ q

    pub decodes : (d : Vars) (xs : List ℕ) → ReachedBy handler initial d → Decodes d xs
    unfolding decoded_by last_by ended
    decodes d [] r = ap (ended close) (run_nil step (live (record_of d) (pos 0))) ∙ (plus_zero (close (record_of d)) ∙ (agrees d r).1)
    decodes d (b ∷ bs) r = goes_on d b bs (reason_of d (byte b)) (handler d (byte b)) ((agrees d r).0 b) (decodes (vars_of (handler d (byte b))) bs (on r b))
