-- The loop of a run, where a turn drops out, and where several bytes are taken at once.
use Rattle.std.specs.Prelude.{◌≡◌, List, ℕ, ◌+◌, ◌-◌, ◌<◌, ◌≤◌, ℤ, pos, length, get_or, take, drop}
use Rattle.std.proofs.Common.{sym, ◌∙◌, arith}
use Rattle.laws.specs.Run.{Out, none, alive, run, last_at}
use Rattle.laws.specs.Going.{Going}
use Rattle.laws.proofs.Run.{turn_none, ends_turn_none}
use Rattle.laws.proofs.Blocks.{block_rest, block_ends}

module _ {D S : Type 0} {step : S → ℕ → Out D S} {P : ℕ → S → Type 0} {g n : ℕ} {start : S} {xs : List ℕ} where
  module _ {i : ℕ} {m : S} {s : ℤ} (going : Going step P g n start xs i m s) (h : i < length xs) where
    pub going_none : {d : D} → step m (get_or xs i 0) ≡ none d → none d ≡ run step (alive start) xs
    going_none {d} e = turn_none step m s xs i h d e ∙ going.rest

    -- and that byte is the last one that the run takes
    pub going_at : {d : D} → step m (get_or xs i 0) ≡ none d → i ≡ last_at step (alive start) xs
    going_at {d} e = omega (arith, ends_turn_none step m s xs i h d e, going.ends)

-- and several bytes at once, which it takes all
module _ {D S : Type 0} {step : S → ℕ → Out D S} {P : ℕ → S → Type 0} {n : ℕ} {start : S} {xs : List ℕ} {i : ℕ} {m : S} (going : Going step P 0 n start xs i m (pos 0)) (e : ℕ) (least : i ≤ e) (most : e ≤ length xs) {next : S} (gave : run step (alive m) (take (e - i) (drop i xs)) ≡ alive next) where
  pub going_block : P (n + e) next → Going step P 0 n start xs e next (pos 0)
  going_block p =
      record { within = most; sound = p; small = omega arith; rest = sym (block_rest going e least most gave) ∙ going.rest; ends = omega (arith, block_ends going e least most gave, going.ends) }
