-- What a range test says of a number, and a number of a range test.
use Rattle.std.specs.Prelude.{◌≡◌, true, false, ℕ, ◌<◌, ◌≤◌, leb}
use Rattle.std.proofs.Math.Bool.{and-false}
use Rattle.std.proofs.Common.{le-leb, leb-true}
use Rattle.std.proofs.lemmas.Bool.{lt-leb}
use Rattle.laws.specs.Tests.{both}
use Rattle.octets.specs.Octets.{between}

module _ (low high b : ℕ) where
  pub inside : low ≤ b → b ≤ high → between low high b ≡ true
  inside p q = rw (le-leb low b p, le-leb b high q)

  pub below : b < low → between low high b ≡ false
  below p = rw (lt-leb low b p)

  pub above : high < b → between low high b ≡ false
  above p = rw (lt-leb b high p) (and-false (leb low b))

  pub between_low : between low high b ≡ true → low ≤ b
  between_low e = leb-true low b (both (leb low b) (leb b high) e).0

  pub between_high : between low high b ≡ true → b ≤ high
  between_high e = leb-true b high (both (leb low b) (leb b high) e).1
