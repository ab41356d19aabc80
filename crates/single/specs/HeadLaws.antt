-- The bytes that a single-byte machine forgets: what the four share.
use Rattle.std.specs.Prelude.{◌≡◌, ℕ, Bool, true, false, not, ◌&&◌, ◌==◌, nat_eq}
use Rattle.std.proofs.lemmas.Bool.{not-true}
use Rattle.laws.specs.Tests.{both}
use Rattle.octets.specs.Octets.{ascii}
use Rattle.single.specs.Class.{class_of, alphabetic}
use Rattle.single.specs.Lent.{Lent}

-- an ASCII byte that has neither class 255 nor an alphabetic class
abbrev pub quiet_at : Lent → ℕ → Bool
quiet_at t b = ascii b && (not (class_of t b == 255) && not (alphabetic t b))

module _ (t : Lent) (b : ℕ) (q : quiet_at t b ≡ true) where
  pub is_ascii : ascii b ≡ true
  is_ascii = (both (ascii b) _ q).0

  pub not_255 : nat_eq (class_of t b) 255 ≡ false
  not_255 = not-true _ (both _ _ (both (ascii b) _ q).1).0

  pub no_letter : alphabetic t b ≡ false
  no_letter = not-true _ (both (not (class_of t b == 255)) _ (both (ascii b) _ q).1).1
