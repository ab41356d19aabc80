-- Ranges, by the tests that the code makes one after the other.
use Rattle.std.specs.Prelude.{◌≡◌, refl, Bool, true, false, ◌&&◌, ◌||◌, ◌⊎◌, ℕ, suc, ◌<◌, ◌≤◌, ltb, leb}
use Rattle.std.proofs.Common.{inl, inr, le-leb, leb-true}
use Rattle.std.proofs.Math.Dec.{leb-suc-suc}
use Rattle.std.proofs.lemmas.Bool.{lt-leb}
use Rattle.laws.specs.Tests.{both}
use Rattle.octets.specs.Octets.{between}

and_no : (t : Bool) → (t && false) ≡ false
and_no true = refl
and_no false = refl

or_no : (t : Bool) → (t || false) ≡ t
or_no true = refl
or_no false = refl

module _ (low high x : ℕ) where
  pub inside : low ≤ x → x ≤ high → between low high x ≡ true
  inside p q = rw (le-leb low x p, le-leb x high q)

  pub below : x < low → between low high x ≡ false
  below p = rw (lt-leb low x p)

  pub above : high < x → between low high x ≡ false
  above p = rw (lt-leb x high p) (and_no (leb low x))

  -- the last test of a range: from low on, it is the range itself
  pub up_to : low ≤ x → ltb x (suc high) ≡ between low high x
  up_to p = rw (le-leb low x p) (leb-suc-suc x high)

  -- the same where the test of another range was passed before
  pub up_to_or : (t : Bool) → low ≤ x → t ≡ false → ltb x (suc high) ≡ (between low high x || t)
  up_to_or t p e = rw (e, le-leb low x p, or_no) (leb-suc-suc x high)

  -- what a range says
  pub range_true : between low high x ≡ true → (low ≤ x) × (x ≤ high)
  range_true e = let h = both (leb low x) (leb x high) e in (leb-true low x h.0, leb-true x high h.1)

-- what two ranges say
pub ranges_true : (low high low' high' x : ℕ) → (between low high x || between low' high' x) ≡ true → ((low ≤ x) × (x ≤ high)) ⊎ ((low' ≤ x) × (x ≤ high'))
ranges_true low high low' high' x e = at (between low high x) refl e
  where
    at : (t : Bool) → between low high x ≡ t → (t || between low' high' x) ≡ true → ((low ≤ x) × (x ≤ high)) ⊎ ((low' ≤ x) × (x ≤ high'))
    at true f g = inl (range_true low high x f)
    at false f g = inr (range_true low' high' x g)
