-- `classes` meets its contract.
use Rattle.std.proofs.Common.{◌≡◌, ℕ, zero, suc, map, rules, refl, ◌∙◌, add-one}
use Rattle.std.specs.List.{range_with_len}
use Rattle.std.proofs.lemmas.List.FromFn.{fill_by_all}
use Rattle.demo.specs.Demo.{tabled, class_of, classes}
use Rattle.demo.proofs.classes.Goals as goal

tabled_is : (f : ℕ → ℕ) (k n : ℕ) → map f (range_with_len k n) ≡ tabled f k n
unfolding tabled
tabled_is f k zero = refl
tabled_is f k (suc n) = rw (add-one, tabled_is f (suc k) n)

pub returns : goal.returns
unfolding classes
returns c = fill_by_all class_of c.from_fn.result 256 0 c.from_fn.ensures.items.long (λ k h. let q = c.from_fn.ensures.items.at k 0 h in search rules) ∙ tabled_is class_of 0 256
