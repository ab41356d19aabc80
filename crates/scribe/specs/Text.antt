-- Flags and numbers as text, in ASCII.
use Rattle.std.specs.Prelude.{Bool, cond, List, [], ◌∷◌, ◌++◌, ℕ, zero, suc, ◌/◌, ◌%◌, ltb, ℤ, pos, negsuc}
use Prim.Native.Char.{code}
use Prim.Native.String.{String}
use Prim.Native.String.{[] as none, ◌∷◌ as ◌then◌}
use Rattle.io.specs.Digits.{hex_digit_ascii}

-- a quoted text of ASCII, byte by byte
abbrev pub ascii : String → List ℕ
ascii none = []
ascii (c then s) = code c ∷ ascii s

abbrev pub newline : List ℕ
newline = 10 ∷ []

-- `1` or `0`
unfoldable pub flag_of : Bool → List ℕ
flag_of f = cond f (ascii "1") (ascii "0")

-- two digits, small letters
unfoldable pub hex_of : ℕ → List ℕ
hex_of b = hex_digit_ascii (b / 16) ∷ hex_digit_ascii (b % 16) ∷ []

-- the last k digits, without leading zeros
unfoldable pub decimal_in : ℕ → ℕ → List ℕ
decimal_in zero n = []
decimal_in (suc k) n = cond (ltb n 10) (hex_digit_ascii n ∷ []) (decimal_in k (n / 10) ++ (hex_digit_ascii (n % 10) ∷ []))

-- a number of 64 bits has 20 digits at most
unfoldable pub decimal_of : ℕ → List ℕ
decimal_of n = decimal_in 20 n

-- with a leading `-` where it is below zero
unfoldable pub signed_of : ℤ → List ℕ
signed_of (pos n) = decimal_of n
signed_of (negsuc n) = ascii "-" ++ decimal_of (suc n)
