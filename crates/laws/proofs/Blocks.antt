-- Several bytes of a run at once, which it takes all: what is left of the run, and where it ends.
use Rattle.std.specs.Prelude.{◌≡◌, List, ℕ, ◌+◌, ◌-◌, ◌≤◌, pos, length, take, drop}
use Rattle.std.proofs.Common.{sym, ap, ◌∙◌, arith, length-take, length-drop}
use Rattle.laws.specs.Lists.{block_is}
use Rattle.laws.specs.Run.{Out, alive, run, ends_at, run_append, ends_append}
use Rattle.laws.specs.Going.{Going}
use Rattle.laws.proofs.Run.{ends_live}

module _ {D S : Type 0} {step : S → ℕ → Out D S} {P : ℕ → S → Type 0} {n : ℕ} {start : S} {xs : List ℕ} {i : ℕ} {m : S} (going : Going step P 0 n start xs i m (pos 0)) (e : ℕ) (least : i ≤ e) (most : e ≤ length xs) {next : S} (gave : run step (alive m) (take (e - i) (drop i xs)) ≡ alive next) where
  pub block_rest : run step (alive m) (drop i xs) ≡ run step (alive next) (drop e xs)
  block_rest =
      ap (run step (alive m)) (sym (block_is xs i e least)) ∙ (run_append step (alive m) (take (e - i) (drop i xs)) (drop e xs) ∙ ap (λ (o : Out D S). run step o (drop e xs)) gave)

  pub block_ends : ends_at step (alive m) (drop i xs) ≡ (e - i) + ends_at step (alive next) (drop e xs)
  block_ends =
      let k : length (take (e - i) (drop i xs)) ≡ e - i = simp (length-take, length-drop) (omega arith) in
      ap (ends_at step (alive m)) (sym (block_is xs i e least)) ∙ (ends_append step (alive m) (take (e - i) (drop i xs)) (drop e xs) ∙ rw (gave, ends_live step (alive m) (take (e - i) (drop i xs)) next (pos 0) gave, k))
