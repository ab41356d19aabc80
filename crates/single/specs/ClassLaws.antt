-- None exactly at class 255.
use Rattle.std.specs.Prelude.{◌≡◌, ℕ, Bool, true, false, cond, ℤ, ◌==◌, ◌≢◌, refl}
use Rattle.std.proofs.Common.{ne_eqb}
use Rattle.laws.specs.Run.{Outcome, none, live}
use Rattle.laws.specs.declared.Reason.{Reason}
use Rattle.laws.specs.declared.Reason.TheVariants.{Class255}
use Rattle.single.specs.Class.{class_of, unless255}
use Rattle.single.specs.Lent.{Lent}

pub not255 : {S : Type 0} (t : Lent) (b : ℕ) (o : Outcome S) → (class_of t b ≢ 255) → unless255 t b o ≡ o
not255 t b o e = rw (ne_eqb _ _ e)

-- what is live is what the step gives
pick_live : {S : Type 0} (x : Bool) (o : Outcome S) (m n : S) (k g : ℤ) → o ≡ none Class255 → cond x o (live m k) ≡ live n g → n ≡ m
pick_live true o m n k g d e = cc
pick_live false o m n k g d e = cc

pub live_is : {S : Type 0} (t : Lent) (b : ℕ) (m n : S) (k g : ℤ) → unless255 t b (live m k) ≡ live n g → n ≡ m
live_is t b m n k g e = pick_live (class_of t b == 255) (none Class255) m n k g refl e

module _ {S : Type 0} (t : Lent) (b : ℕ) {d : Reason} where
  -- what drops out on a byte drops out whatever else the byte does
  pub none_is : (m n : S) (k g : ℤ) → unless255 t b (live m k) ≡ none d → unless255 t b (live n g) ≡ none d
  none_is m n k g e = at (class_of t b == 255) e
    where
      at : (x : Bool) → cond x (none Class255) (live m k) ≡ none d → cond x (none Class255) (live n g) ≡ none d
      at true e = e
      at false e = cc

  -- and for one reason only
  pub none_why : (m : S) (k : ℤ) → unless255 t b (live m k) ≡ none d → d ≡ Class255
  none_why m k e = at (class_of t b == 255) e
    where
      at : (x : Bool) → cond x (none Class255) (live m k) ≡ none d → d ≡ Class255
      at true e = cc
      at false e = cc
