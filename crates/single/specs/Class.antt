-- A byte's class. Caseless class is class modulo 128; class 1 is the Latin letter, bit 7 its capital.
use Rattle.std.specs.Prelude.{ℕ, ◌%◌, Bool, cond, not, List, ◌==◌, nat_le, slice_index}
use Rattle.laws.specs.Run.{Outcome, none}
use Rattle.laws.specs.declared.Reason.TheVariants.{Class255}
use Rattle.single.specs.Lent.{Lent}

abbrev pub class_of : Lent → ℕ → ℕ
class_of t b = slice_index t.classes b

abbrev pub caseless_of : Lent → ℕ → ℕ
caseless_of t b = class_of t b % 128

abbrev pub latin_letter : ℕ
latin_letter = 1

-- of a class
abbrev pub is_capital : ℕ → Bool
is_capital class = nat_le 128 class

-- alphabetic is what the lent marks say of the caseless class
abbrev pub alphabetic_of : List ℕ → ℕ → Bool
alphabetic_of marks k = not (slice_index marks k == 0)

abbrev pub alphabetic : Lent → ℕ → Bool
alphabetic t b = alphabetic_of t.marks (caseless_of t b)

-- none exactly at class 255, and for that reason
abbrev pub unless255 : {S : Type 0} → Lent → ℕ → Outcome S → Outcome S
unless255 t b o = cond (class_of t b == 255) (none Class255) o

-- what the end of the stream counts as
abbrev pub space : ℕ
space = 0x20
