-- The UTF-8 rule on one sheet: nine states by 256 byte values, each entry the state that the byte leads to.
use Rattle.std.specs.Prelude.{◌≡◌, Bool, cond, ◌&&◌, List, [], ◌∷◌, ℕ, ◌+◌, ◌-◌, ◌*◌, ◌/◌, ◌%◌, ◌<◌, ◌≤◌, eqb, leb, length, get_or}
use Rattle.laws.specs.declared.Reason.TheVariants.{BadByte}
use Rattle.laws.specs.Run.{Outcome, none, live, alive, with_byte}
use Rattle.laws.specs.Table.{every}
use Rattle.utf8.specs.declared.Utf8.{Utf8}
use Rattle.utf8.specs.Utf8.{needs, fresh, next_in, step_of}

-- ---- the states
-- the first one: the bytes are not well-formed, and stay so whatever follows
abbrev pub bad : ℕ
bad = 0

-- and the number of the last one
abbrev pub last : ℕ
last = 8

-- the records of the others, by number, from state 1 on
abbrev pub records : List Utf8
records =
    needs 0 0x80 0xBF
    ∷ needs 1 0x80 0xBF
    ∷ needs 2 0x80 0xBF
    ∷ needs 3 0x80 0xBF
    ∷ needs 2 0xA0 0xBF
    ∷ needs 2 0x80 0x9F
    ∷ needs 3 0x90 0xBF
    ∷ needs 3 0x80 0x8F
    ∷ []

-- a state that has a record
abbrev pub Live : ℕ → Type 0
Live s = (bad < s) × (s ≤ last)

unfoldable pub record_at : ℕ → Utf8
record_at s = get_or records (s - 1) fresh

-- what a state stands for
unfoldable pub outcome_at : ℕ → Outcome Utf8
outcome_at s = cond (eqb s bad) (none BadByte) (alive (record_at s))

-- a record whose next byte's range is cut at its low end, or, one state further, at its high end
unfoldable pub cut_state : Utf8 → ℕ → ℕ → ℕ → ℕ
cut_state m lo hi s = cond (next_in m lo 0xBF) s (cond (next_in m 0x80 hi) (s + 1) bad)

-- the state of a record: the first one for a record that is none of those
unfoldable pub state_of : Utf8 → ℕ
state_of m =
    cond (next_in m 0x80 0xBF) (cond (leb m.need 3) (m.need + 1) bad)
    (cond (eqb m.need 2) (cut_state m 0xA0 0x9F 5)
    (cond (eqb m.need 3) (cut_state m 0x90 0x8F 7) bad))

-- the state that stands for an outcome
unfoldable pub state_after : Outcome Utf8 → ℕ
state_after (none d) = bad
state_after (live m s) = state_of m

-- ---- the grid
-- where a byte leads: the step's outcome, by its number
unfoldable pub entry_of : ℕ → ℕ → ℕ
entry_of s b = state_after (with_byte step_of (outcome_at s) b)

-- entry 256 x state + byte is the next state, at every state and every byte
pub record IsGrid (grid : List ℕ) : Type 0 where
  pub whole : length grid ≡ 2304
  pub entries : (s b : ℕ) → s ≤ last → b < 256 → get_or grid (256 * s + b) 0 ≡ entry_of s b

-- the same as one test of all entries, which the checker computes
abbrev pub right_b : ℕ → ℕ → Bool
right_b k entry = eqb entry (entry_of (k / 256) (k % 256))

abbrev pub grid_b : List ℕ → Bool
grid_b grid = eqb (length grid) 2304 && every right_b 0 grid
