-- What demand 3 asks of a head's bytes, and of a place's tables.
use Rattle.std.specs.Prelude.{◌≡◌, Bool, true, false, not, ◌&&◌, ◌||◌, ℕ, eqb}
use Rattle.octets.specs.Octets.{ascii}
use Rattle.context.specs.Head.{is_trigger}
use Rattle.single.specs.Class.{class_of, alphabetic}
use Rattle.tables.specs.Own.{Own, lent_to}

-- shift out and shift in
abbrev pub is_shift : ℕ → Bool
is_shift b = eqb b 0x0E || eqb b 0x0F

abbrev pub plain : ℕ → Bool
plain b = not (is_trigger b) && not (is_shift b)

-- no ASCII byte has class 255 or an alphabetic class
pub record Plain (o : Own) : Type 0 where
  pub no_255 : (b : ℕ) → ascii b ≡ true → eqb (class_of (lent_to o) b) 255 ≡ false
  pub no_letter : (b : ℕ) → ascii b ≡ true → alphabetic (lent_to o) b ≡ false
