-- The Encoding Standard's ISO-2022-JP decoder, in its variables and its order, as far as a validator goes: what the code point
-- is does not matter, only whether there is one.
use Rattle.std.specs.Prelude.{Bool, true, false, cond, not, ◌&&◌, ◌||◌, List, [], ◌∷◌, ℕ, ◌+◌, ◌-◌, ◌*◌, eqb}
use Rattle.laws.specs.Lists.{is_in}
use Rattle.laws.specs.Handler.{Item, end_of_queue, byte, continue, code_point, error, finished}
use Rattle.laws.specs.Validator.{Verdict, ReachedBy}
use Rattle.octets.specs.Octets.{between}

pub data DecoderState : Type 0 where
  ascii : DecoderState
  roman : DecoderState
  katakana : DecoderState
  lead_byte : DecoderState
  trail_byte : DecoderState
  escape_start : DecoderState
  escape : DecoderState

-- the states that an escape can set, which the output state is one of
pub data OutputState : Type 0 where
  out_ascii : OutputState
  out_roman : OutputState
  out_katakana : OutputState
  out_lead_byte : OutputState

abbrev pub as_state : OutputState → DecoderState
as_state out_ascii = ascii
as_state out_roman = roman
as_state out_katakana = katakana
as_state out_lead_byte = lead_byte

-- the decoder's variables
pub record Decoder : Type 0 where
  pub decoder_state_lem : DecoderState
  pub output_state_lem : OutputState
  pub lead : ℕ
  pub output : Bool

abbrev pub variables : DecoderState → OutputState → ℕ → Bool → Decoder
variables state out lead output = record { decoder_state_lem = state; output_state_lem = out; lead = lead; output = output }

-- what they are initially
abbrev pub initial : Decoder
initial = variables ascii out_ascii 0 false

-- decoder state is set
abbrev pub to : DecoderState → Decoder → Decoder
to state d = variables state d.output_state_lem d.lead d.output

-- output is set to false
abbrev pub output_false : Decoder → Decoder
output_false d = variables d.decoder_state_lem d.output_state_lem d.lead false

-- 00 to 7F, but not 0E, 0F and 1B
abbrev pub is_text_lem : ℕ → Bool
is_text_lem b = between 0x00 0x7F b && not (is_in (0x0E ∷ 0x0F ∷ 0x1B ∷ []) b)

-- ASCII; and Roman, where 5C and 7E give other code points
abbrev pub in_ascii : Decoder → ℕ → Verdict Decoder
in_ascii d b =
    cond (eqb b 0x1B) (continue (to escape_start d))
    (cond (is_text_lem b) (code_point tt (output_false d)) (error [] (output_false d)))

abbrev pub in_katakana : Decoder → ℕ → Verdict Decoder
in_katakana d b =
    cond (eqb b 0x1B) (continue (to escape_start d))
    (cond (between 0x21 0x5F b) (code_point tt (output_false d)) (error [] (output_false d)))

abbrev pub in_lead_byte : Decoder → ℕ → Verdict Decoder
in_lead_byte d b =
    cond (eqb b 0x1B) (continue (to escape_start d))
    (cond (between 0x21 0x7E b) (continue (variables trail_byte d.output_state_lem b false)) (error [] (output_false d)))

-- the pointer into the index
abbrev pub pointer : ℕ → ℕ → ℕ
pointer lead b = (lead - 0x21) * 94 + b - 0x21

-- indexed: whether the index has a code point at a pointer
abbrev pub in_trail_byte : (ℕ → Bool) → Decoder → ℕ → Verdict Decoder
in_trail_byte indexed d b =
    cond (eqb b 0x1B) (error [] (to escape_start d))
    (cond (between 0x21 0x7E b)
    (cond (indexed (pointer d.lead b)) (code_point tt (to lead_byte d)) (error [] (to lead_byte d)))
    (error [] (to lead_byte d)))

-- an escape that is none: the bytes after 1B are restored, output false, decoder state is the output state
abbrev pub no_escape : List ℕ → Decoder → Verdict Decoder
no_escape restored d = error restored (variables (as_state d.output_state_lem) d.output_state_lem d.lead false)

abbrev pub in_escape_start : Decoder → ℕ → Verdict Decoder
in_escape_start d b =
    cond (eqb b 0x24 || eqb b 0x28) (continue (variables escape d.output_state_lem b d.output))
    (no_escape (b ∷ []) d)

-- the state that an escape's two bytes set, or null
pub data Set : Type 0 where
  null : Set
  state : OutputState → Set

unfoldable pub set_by : ℕ → ℕ → Set
set_by lead b =
    cond (eqb lead 0x28 && eqb b 0x42) (state out_ascii)
    (cond (eqb lead 0x28 && eqb b 0x4A) (state out_roman)
    (cond (eqb lead 0x28 && eqb b 0x49) (state out_katakana)
    (cond (eqb lead 0x24 && (eqb b 0x40 || eqb b 0x42)) (state out_lead_byte) null)))

-- lead becomes 0. A state that is set: decoder state and output state become it, output becomes true, and it is an error if output was true
unfoldable pub after_set : List ℕ → Decoder → Set → Verdict Decoder
after_set restored d null = no_escape restored (variables d.decoder_state_lem d.output_state_lem 0 d.output)
after_set restored d (state o) = cond d.output (error [] (variables (as_state o) o 0 true)) (continue (variables (as_state o) o 0 true))

abbrev pub in_escape : Decoder → ℕ → Verdict Decoder
in_escape d b = after_set (d.lead ∷ b ∷ []) d (set_by d.lead b)

-- a byte, by decoder state
unfoldable pub on_byte : (ℕ → Bool) → DecoderState → Decoder → ℕ → Verdict Decoder
on_byte indexed ascii d b = in_ascii d b
on_byte indexed roman d b = in_ascii d b
on_byte indexed katakana d b = in_katakana d b
on_byte indexed lead_byte d b = in_lead_byte d b
on_byte indexed trail_byte d b = in_trail_byte indexed d b
on_byte indexed escape_start d b = in_escape_start d b
on_byte indexed escape d b = in_escape d b

-- the end, by decoder state
unfoldable pub on_end : DecoderState → Decoder → Verdict Decoder
on_end ascii d = finished d
on_end roman d = finished d
on_end katakana d = finished d
on_end lead_byte d = finished d
on_end trail_byte d = error [] (to lead_byte d)
on_end escape_start d = no_escape [] d
on_end escape d = after_set (d.lead ∷ []) d null

unfoldable pub handler : (ℕ → Bool) → Decoder → Item → Verdict Decoder
handler indexed d end_of_queue = on_end d.decoder_state_lem d
handler indexed d (byte b) = on_byte indexed d.decoder_state_lem d b

-- what the variables can be
abbrev pub Reached : (ℕ → Bool) → Decoder → Type 0
Reached indexed d = ReachedBy (handler indexed) initial d
