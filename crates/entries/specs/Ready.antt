-- What a machine over a lent index asks of a call: a record that its kind can hold, an index of the exact length, and a stretch that
-- is not too long. The test decides it where the test of the record does.
use Rattle.std.specs.Prelude.{◌≡◌, Bool, true, ◌&&◌, List, ℕ, ◌≤◌, eqb, leb, length}
use borrow.Author.Tests.{eq-eqb, eqb-true, le-leb, leb-true}
use Rattle.laws.specs.Limit.{limit}
use Rattle.laws.specs.Tests.{both}

pub record Ready (Sound : Type 0) (count : ℕ) (index xs : List ℕ) : Type 0 where
  pub sound : Sound
  pub sized : length index ≡ count
  pub short : length xs ≤ limit

unfoldable pub ready_b : Bool → ℕ → List ℕ → List ℕ → Bool
ready_b sound count index xs = sound && (eqb (length index) count && leb (length xs) limit)

module _ {Sound : Type 0} (sound : Bool) (count : ℕ) (index xs : List ℕ) where
  pub true_ready : (Sound → sound ≡ true) → Ready Sound count index xs → ready_b sound count index xs ≡ true
  unfolding ready_b
  true_ready f r = rw (f r.sound, eq-eqb _ _ r.sized, le-leb _ _ r.short)

  pub ready_true : (sound ≡ true → Sound) → ready_b sound count index xs ≡ true → Ready Sound count index xs
  unfolding ready_b
  ready_true f e =
      let p = both sound _ e in
      let q = both (eqb (length index) count) _ p.1 in
      record { sound = f p.0; sized = eqb-true _ _ q.0; short = leb-true _ _ q.1 }
