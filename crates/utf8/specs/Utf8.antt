-- The UTF-8 machine: how many bytes are still needed and the range of the next one. A byte changes no score.
use Rattle.std.specs.Prelude.{Bool, false, cond, ◌&&◌, ◌||◌, List, ℕ, ◌-◌, ◌≤◌, eqb, leb, length, Result}
use Rattle.laws.specs.Limit.{limit}
use Rattle.laws.specs.Answer.{reached, tested}
use Rattle.laws.specs.declared.Stop.{Stop}
use Rattle.laws.specs.declared.Reason.TheVariants.{BadByte, CutAtClose}
use Rattle.laws.specs.Run.{Outcome, none, alive, run, last_at}
use Rattle.octets.specs.Octets.{between}
use Rattle.utf8.specs.declared.Utf8.{Utf8}

-- ---- records
-- n bytes are needed, the next of them from lo to hi
abbrev pub needs : ℕ → ℕ → ℕ → Utf8
needs n lo hi = record { need = n; lo = lo; hi = hi }

abbrev pub fresh : Utf8
fresh = needs 0 0x80 0xBF

-- the records that the kind can hold
pub data Sound : Utf8 → Type 0 where
  plain : {n : ℕ} → n ≤ 3 → Sound (needs n 0x80 0xBF)
  after_E0 : Sound (needs 2 0xA0 0xBF)
  after_ED : Sound (needs 2 0x80 0x9F)
  after_F0 : Sound (needs 3 0x90 0xBF)
  after_F4 : Sound (needs 3 0x80 0x8F)

unfoldable pub next_in : Utf8 → ℕ → ℕ → Bool
next_in m lo hi = eqb m.lo lo && eqb m.hi hi

unfoldable pub next_cut : Utf8 → ℕ → ℕ → Bool
next_cut m lo hi = next_in m lo 0xBF || next_in m 0x80 hi

unfoldable pub sound_b : Utf8 → Bool
sound_b m =
    cond (next_in m 0x80 0xBF) (leb m.need 3)
    (cond (eqb m.need 2) (next_cut m 0xA0 0x9F)
    (cond (eqb m.need 3) (next_cut m 0x90 0x8F) false))

-- ---- one byte
-- a byte where a sequence begins
unfoldable pub lead_of : ℕ → Outcome Utf8
lead_of b =
    cond (between 0x00 0x7F b) (alive fresh)
    (cond (between 0xC2 0xDF b) (alive (needs 1 0x80 0xBF))
    (cond (between 0xE0 0xEF b) (alive (needs 2 (cond (eqb b 0xE0) 0xA0 0x80) (cond (eqb b 0xED) 0x9F 0xBF)))
    (cond (between 0xF0 0xF4 b) (alive (needs 3 (cond (eqb b 0xF0) 0x90 0x80) (cond (eqb b 0xF4) 0x8F 0xBF)))
    (none BadByte))))

-- a byte within one
unfoldable pub trail_of : Utf8 → ℕ → Outcome Utf8
trail_of m b = cond (between m.lo m.hi b) (alive (needs (m.need - 1) 0x80 0xBF)) (none BadByte)

unfoldable pub step_of : Utf8 → ℕ → Outcome Utf8
step_of m b = cond (eqb m.need 0) (lead_of b) (trail_of m b)

-- ---- the end of the stream
unfoldable pub close_of : Utf8 → Outcome Utf8
close_of m = cond (eqb m.need 0) (alive m) (none CutAtClose)

-- ---- the code's answers
-- a record that the kind can hold, and a stretch that is not too long
pub record Ready (m : Utf8) (xs : List ℕ) : Type 0 where
  pub sound : Sound m
  pub short : length xs ≤ limit

unfoldable pub ready_b : Utf8 → List ℕ → Bool
ready_b m xs = sound_b m && leb (length xs) limit

-- the change of the score, which is 0, is not told
unfoldable pub ran_of : Utf8 → List ℕ → Result Utf8 Stop
ran_of m xs = tested (ready_b m xs) (reached (last_at step_of (alive m) xs) (run step_of (alive m) xs))

-- the end takes no byte
unfoldable pub closed_of : Utf8 → Result Utf8 Stop
closed_of m = tested (sound_b m) (reached 0 (close_of m))
