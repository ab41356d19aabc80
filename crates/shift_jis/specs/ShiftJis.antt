-- The Shift_JIS machine: the pending lead. A byte changes no score.
use Rattle.std.specs.Prelude.{◌≡◌, Bool, true, cond, ◌&&◌, ◌||◌, List, ◌⊎◌, ℕ, eqb, get_or, Option, Some, None, Result}
use Rattle.lengths.specs.Lengths.{jis_count}
use Rattle.laws.specs.Answer.{reached, tested}
use Rattle.laws.specs.declared.Reason.TheVariants.{BadByte, CutAtClose}
use Rattle.laws.specs.declared.Stop.{Stop}
use Rattle.laws.specs.Run.{Outcome, none, alive, run, last_at}
use Rattle.octets.specs.Octets.{between}
use Rattle.entries.specs.Ready.{Ready as ReadyFor, ready_b}
use Rattle.shift_jis.specs.Standard.{is_lead, is_trail, pointer, is_private_use, is_mapped}
use Rattle.shift_jis.specs.declared.ShiftJis.{ShiftJis}

-- ---- records
abbrev pub holds : ℕ → ShiftJis
holds lead = record { lead = lead }

abbrev pub fresh : ShiftJis
fresh = holds 0

-- the records that the kind can hold
abbrev pub Sound : ShiftJis → Type 0
Sound m = (m.lead ≡ 0) ⊎ (is_lead m.lead ≡ true)

abbrev pub sound_b : ShiftJis → Bool
sound_b m = eqb m.lead 0 || is_lead m.lead

-- ---- one byte
-- a byte that is a code point by itself: ASCII and 80, and half-width katakana
abbrev pub is_alone : ℕ → Bool
is_alone b = between 0x00 0x80 b || between 0xA1 0xDF b

-- a byte where no lead is pending
unfoldable pub first_of : ℕ → Outcome ShiftJis
first_of b =
    cond (is_alone b) (alive fresh)
    (cond (is_lead b) (alive (holds b)) (none BadByte))

module _ (index : List ℕ) where
  -- whether a pointer stands for a code point
  abbrev pub is_point : ℕ → Bool
  is_point at = is_private_use at || is_mapped (get_or index at 0)

  -- a byte after a lead
  unfoldable pub trail_of : ℕ → ℕ → Outcome ShiftJis
  trail_of lead b = cond (is_trail b && is_point (pointer lead b)) (alive fresh) (none BadByte)

  unfoldable pub step_of : ShiftJis → ℕ → Outcome ShiftJis
  step_of m b = cond (eqb m.lead 0) (first_of b) (trail_of m.lead b)

-- ---- the end of the stream
unfoldable pub close_of : ShiftJis → Outcome ShiftJis
close_of m = cond (eqb m.lead 0) (alive m) (none CutAtClose)

-- ---- the code's answers
-- no record: the byte is bad
abbrev pub out_of : Option ShiftJis → Outcome ShiftJis
out_of (Some m) = alive m
out_of None = none BadByte

-- over the index of the right length
abbrev pub Ready : List ℕ → ShiftJis → List ℕ → Type 0
Ready index m xs = ReadyFor (Sound m) jis_count index xs

-- the change of the score, which is 0, is not told
unfoldable pub ran_of : List ℕ → ShiftJis → List ℕ → Result ShiftJis Stop
ran_of index m xs = tested (ready_b (sound_b m) jis_count index xs) (reached (last_at (step_of index) (alive m) xs) (run (step_of index) (alive m) xs))

-- the end takes no byte
unfoldable pub closed_of : ShiftJis → Result ShiftJis Stop
closed_of m = tested (sound_b m) (reached 0 (close_of m))
