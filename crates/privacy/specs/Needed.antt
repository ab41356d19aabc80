-- Each premise on heads and tables is needed: for each, two streams over concrete lent data that meet all the others, and do not
-- agree. Where it can be, the two are one stream cut in two ways.
use Rattle.std.specs.Prelude.{◌≡◌, true, false, List, [], ◌∷◌, ℕ, ℤ, pos, set, replicate}
use Rattle.laws.specs.Lists.{last}
use Rattle.lengths.specs.Lengths.{class_count, mark_count, pair_count, big5_count, euc_kr_count, jis_count, extra_count, weight_count}
use Rattle.weights.specs.Weights.{index_of, case}
use Rattle.context.specs.Head.{head_of}
use Rattle.tables.specs.Tables.{Tables, tables}
use Rattle.state.specs.State.{start_of}
use Rattle.detector.specs.Stream.{rest_of}
use Rattle.privacy.specs.Privacy.{Call, call, after_calls, ClosedStream, stream_of, InEach, No255, NoLetter, NoShift, Agree}

-- ---- two streams that do not agree
pub record Fails (t : Tables) (bits : ℕ) (one two : List Call) (kept : Type 0) : Type 0 where
  pub one_closed : ClosedStream t bits one
  pub two_closed : ClosedStream t bits two
  pub rests : rest_of (stream_of one) ≡ rest_of (stream_of two)
  -- the premises that are kept
  pub others : kept
  pub differ : Agree (after_calls t (start_of bits) one) (after_calls t (start_of bits) two) → ⊥

abbrev pub SameHeads : List Call → List Call → Type 0
SameHeads one two = head_of (stream_of one) ≡ head_of (stream_of two)

abbrev pub SameLast : List Call → List Call → Type 0
SameLast one two = last 1 (head_of (stream_of one)) ≡ last 1 (head_of (stream_of two))

abbrev pub Shiftless : List Call → List Call → Type 0
Shiftless one two = NoShift (head_of (stream_of one)) × NoShift (head_of (stream_of two))

-- in one chunk, and in two
abbrev pub whole : List ℕ → List Call
whole xs = call xs true ∷ []

abbrev pub in_two : List ℕ → List ℕ → List Call
in_two xs ys = call xs false ∷ call ys true ∷ []

-- all places in
abbrev pub all_in : ℕ
all_in = 511

-- ---- lent data: all zeros, but for classes and marks, which are the same in all four places, and weights
unfoldable pub zeros : ℕ → List ℕ
zeros n = replicate n 0

unfoldable pub no_scores : ℕ → List ℤ
no_scores n = replicate n (pos 0)

abbrev pub lent_with : List ℕ → List ℕ → List ℤ → Tables
lent_with c m w =
    let p = no_scores pair_count in
    tables c m p c m p c m p c m p (zeros big5_count) (zeros euc_kr_count) (zeros jis_count) (no_scores extra_count) w

abbrev pub nothing_lent : Tables
nothing_lent = lent_with (zeros class_count) (zeros mark_count) (no_scores weight_count)

-- 41 has class 255
abbrev pub barred : Tables
barred = lent_with (set (zeros class_count) 0x41 255) (zeros mark_count) (no_scores weight_count)

-- 41 has class 2, which is alphabetic
abbrev pub lettered : Tables
lettered = lent_with (set (zeros class_count) 0x41 2) (set (zeros mark_count) 2 1) (no_scores weight_count)

-- 41 and 42 are capitals and E9 is a small letter, all Latin; the case weight is 1
abbrev pub latin : Tables
latin = lent_with (set (set (set (zeros class_count) 0x41 0x81) 0x42 0x81) 0xE9 1) (zeros mark_count) (set (no_scores weight_count) (index_of case) (pos 1))

-- ---- the streams
-- 41 42 E9 and 20 42 E9
abbrev pub after_a : List Call
after_a = whole (0x41 ∷ 0x42 ∷ 0xE9 ∷ [])

abbrev pub after_space : List Call
after_space = whole (0x20 ∷ 0x42 ∷ 0xE9 ∷ [])

-- 41 20 20 E9: the third byte of the head from its end is fed where the chunk with the trigger has one byte before it
abbrev pub cut : List Call
cut = in_two (0x41 ∷ 0x20 ∷ []) (0x20 ∷ 0xE9 ∷ [])

abbrev pub uncut : List Call
uncut = whole (0x41 ∷ 0x20 ∷ 0x20 ∷ 0xE9 ∷ [])

-- b 20 20 1B 28 42: the rest is an escape that names ASCII, at which ISO-2022-JP lives
abbrev pub shift_cut : ℕ → List Call
shift_cut b = in_two (b ∷ 0x20 ∷ []) (0x20 ∷ 0x1B ∷ 0x28 ∷ 0x42 ∷ [])

abbrev pub shift_uncut : ℕ → List Call
shift_uncut b = whole (b ∷ 0x20 ∷ 0x20 ∷ 0x1B ∷ 0x28 ∷ 0x42 ∷ [])

-- ---- the pairs
pub record EachNeeded : Type 0 where
  -- 'the same last two'; the last one is the same
  pub last_two : Fails latin all_in after_a after_space (SameLast after_a after_space × (InEach No255 latin × (InEach NoLetter latin × Shiftless after_a after_space)))
  -- 'class 255'
  pub class_255 : Fails barred all_in cut uncut (SameHeads cut uncut × (InEach NoLetter barred × Shiftless cut uncut))
  -- 'an alphabetic class'
  pub alphabetic : Fails lettered all_in cut uncut (SameHeads cut uncut × (InEach No255 lettered × Shiftless cut uncut))
  -- '0E or 0F'
  pub shift_out : Fails nothing_lent all_in (shift_cut 0x0E) (shift_uncut 0x0E) (SameHeads (shift_cut 0x0E) (shift_uncut 0x0E) × (InEach No255 nothing_lent × InEach NoLetter nothing_lent))
  pub shift_in : Fails nothing_lent all_in (shift_cut 0x0F) (shift_uncut 0x0F) (SameHeads (shift_cut 0x0F) (shift_uncut 0x0F) × (InEach No255 nothing_lent × InEach NoLetter nothing_lent))
