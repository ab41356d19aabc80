-- How long a text can be, and that a buffer of that length has room for it.
use Rattle.std.specs.Prelude.{◌≡◌, refl, Bool, true, false, List, [], ◌∷◌, ◌++◌, ℕ, zero, suc, ◌+◌, ◌/◌, ◌%◌, ◌≤◌, leb, ltb, ℤ, pos, negsuc, length, drop}
use Prim.Native.String.{String}
use Rattle.std.proofs.Common.{zero-add, arith, length-append, leb-true}
use Rattle.io.specs.Digits.{hex_digit_ascii}
use Rattle.laws.specs.Tests.{either}
use Rattle.scribe.specs.Page.{page, onto}
use Rattle.scribe.specs.PageLaws.{written}
use Rattle.scribe.specs.Text.{ascii, newline, flag_of, hex_of, decimal_in, decimal_of, signed_of}

-- so many bytes at most
pub record Fits (n : ℕ) (xs : List ℕ) : Type 0 where
  pub short : length xs ≤ n

pub text : (s : String) → Fits (length (ascii s)) (ascii s)
text s = record { short = omega arith }

pub line_end : Fits 1 newline
line_end = record { short = omega arith }

pub joined : {m n : ℕ} {xs ys : List ℕ} → Fits m xs → Fits n ys → Fits (m + n) (xs ++ ys)
joined {xs = xs} {ys = ys} f g = record { short = omega (arith, length-append xs ys, f.short, g.short) }

pub wide : {m n : ℕ} {xs : List ℕ} → Fits m xs → leb m n ≡ true → Fits n xs
wide {m = m} {n = n} f e = record { short = omega (arith, leb-true m n e, f.short) }

-- ---- flags and numbers
pub flag : (f : Bool) → Fits 1 (flag_of f)
unfolding flag_of
flag true = text "1"
flag false = text "0"

pub hex : (b : ℕ) → Fits 2 (hex_of b)
unfolding hex_of
hex b = record { short = omega arith }

decimal_in_lem : (k n : ℕ) → Fits k (decimal_in k n)
unfolding decimal_in
decimal_in_lem zero n = record { short = omega arith }
decimal_in_lem (suc k) n =
    either (Fits (suc k)) (ltb n 10) (λ e. record { short = omega arith }) (λ e. record { short = omega (arith, length-append (decimal_in k (n / 10)) (hex_digit_ascii (n % 10) ∷ []), (decimal_in_lem k (n / 10)).short) })

pub decimal : (n : ℕ) → Fits 20 (decimal_of n)
unfolding decimal_of
decimal n = decimal_in_lem 20 n

pub signed : (z : ℤ) → Fits 21 (signed_of z)
unfolding signed_of
signed (pos n) = wide (decimal n) refl
signed (negsuc n) = joined (text "-") (decimal (suc n))

-- what is written into a buffer with room for it is the whole text
pub whole : (n : ℕ) (xs ts : List ℕ) → Fits n ts → n ≤ length xs → onto (page xs 0) ts ≡ page (ts ++ drop (length ts) xs) (length ts)
whole n xs ts f h =
    let w = written ts xs 0 (omega (arith, h, f.short)) in
    rw zero-add at w
