-- The Encoding Standard's UTF-8 decoder, in its variables and its order, as far as a validator goes: what the code point is
-- does not matter, only whether there is one. No byte order mark is looked for.
use Rattle.std.specs.Prelude.{cond, [], ◌∷◌, ℕ, ◌+◌, eqb}
use Rattle.laws.specs.Handler.{Item, end_of_queue, byte, continue, code_point, error, finished}
use Rattle.laws.specs.Validator.{Verdict, ReachedBy}
use Rattle.octets.specs.Octets.{between}

-- the decoder's variables
pub record Decoder : Type 0 where
  pub bytes_seen : ℕ
  pub bytes_needed : ℕ
  pub lower_boundary : ℕ
  pub upper_boundary : ℕ

abbrev pub variables : (seen needed lower upper : ℕ) → Decoder
variables seen needed lower upper = record { bytes_seen = seen; bytes_needed = needed; lower_boundary = lower; upper_boundary = upper }

-- what they are initially
abbrev pub initial : Decoder
initial = variables 0 0 0x80 0xBF

-- end-of-queue: with bytes needed not 0 they become 0, error; else finished
abbrev pub at_end : Decoder → Verdict Decoder
at_end d =
    cond (eqb d.bytes_needed 0) (finished d)
    (error [] (variables d.bytes_seen 0 d.lower_boundary d.upper_boundary))

-- bytes needed is 0, based on byte
abbrev pub first : Decoder → ℕ → Verdict Decoder
first d b =
    cond (between 0x00 0x7F b) (code_point tt d)
    (cond (between 0xC2 0xDF b) (continue (variables d.bytes_seen 1 d.lower_boundary d.upper_boundary))
    (cond (between 0xE0 0xEF b)
    (continue (variables d.bytes_seen 2 (cond (eqb b 0xE0) 0xA0 d.lower_boundary) (cond (eqb b 0xED) 0x9F d.upper_boundary)))
    (cond (between 0xF0 0xF4 b)
    (continue (variables d.bytes_seen 3 (cond (eqb b 0xF0) 0x90 d.lower_boundary) (cond (eqb b 0xF4) 0x8F d.upper_boundary)))
    (error [] d))))

-- bytes needed is not 0: a byte outside the boundaries resets all and is restored, error; else one byte more is seen, and the boundaries are reset
abbrev pub next : Decoder → ℕ → Verdict Decoder
next d b =
    cond (between d.lower_boundary d.upper_boundary b)
    (cond (eqb (d.bytes_seen + 1) d.bytes_needed) (code_point tt initial) (continue (variables (d.bytes_seen + 1) d.bytes_needed 0x80 0xBF)))
    (error (b ∷ []) initial)

unfoldable pub handler : Decoder → Item → Verdict Decoder
handler d end_of_queue = at_end d
handler d (byte b) = cond (eqb d.bytes_needed 0) (first d b) (next d b)

-- what the variables can be
abbrev pub Reached : Decoder → Type 0
Reached d = ReachedBy handler initial d
