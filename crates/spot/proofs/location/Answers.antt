-- `location` meets its contract.
use mathlib.Core.Path.{◌≡◌, refl, ap, ◌∙◌}
use mathlib.Core.List.{List}
use Prim.Native.Nat.{ℕ}
use Rattle.laws.specs.declared.Reason.{Reason}
use Rattle.laws.specs.declared.Reason.TheVariants.{Class255, BadByte, BadSecondByte, BrokenEscape, CutAtClose, NotInSlate}
use Rattle.scribe.specs.Lent.{with_text}
use Rattle.scribe.specs.Page.{onto}
use Rattle.spot.specs.Spot.{at_place_text, where_text}
use Rattle.spot.proofs.location.Goals as goal

-- the arm of the reasons that a byte gives
of_byte : (file : List ℕ) (head : ℕ) (d : Reason) (at : ℕ) → (d ≡ CutAtClose → ⊥) → (d ≡ NotInSlate → ⊥) → at_place_text file head at ≡ where_text file head d at
unfolding where_text
of_byte file head Class255 at p q = refl
of_byte file head BadByte at p q = refl
of_byte file head BadSecondByte at p q = refl
of_byte file head BrokenEscape at p q = refl
of_byte file head CutAtClose at p q = absurd (p refl)
of_byte file head NotInSlate at p q = absurd (q refl)

pub returns-in-CutAtClose : goal.returns-in-CutAtClose
unfolding where_text
returns-in-CutAtClose c = rw c.in-CutAtClose.is c.at_cut.ensures

pub returns-in-NotInSlate : goal.returns-in-NotInSlate
unfolding where_text onto
returns-in-NotInSlate c = rw c.in-NotInSlate.is

pub returns-in_default : goal.returns-in_default
returns-in_default c = let a = c.args in c.at_place.ensures ∙ ap (with_text _) (of_byte a.file.bytes.now a.file.head a.reason a.place c.in_default.not-CutAtClose c.in_default.not-NotInSlate)
