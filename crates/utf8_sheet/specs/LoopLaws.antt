-- For the loops that find the end of a run and write lines and states: the start, one turn, and the end.
use Rattle.std.specs.Prelude.{◌≡◌, List, ◌∷◌, ℕ, suc, ◌+◌, ◌-◌, ◌*◌, ◌≤◌, ◌<◌, length, get_or, take, drop}
use Rattle.std.proofs.Common.{add-one, drop_of_length-le, drop-cons}
use native.Mathlib.Omega.{arith}
use borrow.Author.Tests.{eq-eqb, ne_eqb}
use Rattle.scribe.specs.Page.{Page, onto}
use Rattle.scribe.specs.PageLaws.{onto_append}
use Rattle.utf8_sheet.specs.Sheet.{run, runs_after, runs_from, line_of, lines_of, state_text, row_of, states_from}

-- the run that starts at a place of a row ends before another
pub record Ended (row : List ℕ) (from past : ℕ) : Type 0 where
  pub some : from < past
  pub within : past ≤ length row
  pub runs : runs_from from (drop from row) ≡ run from (past - 1) (get_or row from 0) ∷ runs_from past (drop past row)

-- ---- the end of a run
pub run_starts : (row : List ℕ) (from : ℕ) → from < length row → runs_from from (drop from row) ≡ runs_after (run from (from + 1 - 1) (get_or row from 0)) (drop (from + 1) row)
unfolding runs_from
run_starts row from h =
    let n : from + 1 - 1 ≡ from = omega arith in
    rw (drop-cons row from 0 h, n, add-one)

module _ (row : List ℕ) (from end x : ℕ) (some : 0 < end) where
  before : suc (end - 1) ≡ end
  before = omega arith

  pub run_goes_on : end < length row → get_or row end 0 ≡ x → runs_after (run from (end - 1) x) (drop end row) ≡ runs_after (run from (end + 1 - 1) x) (drop (end + 1) row)
  unfolding runs_after
  run_goes_on h e =
      let n : end + 1 - 1 ≡ end = omega arith in
      rw (drop-cons row end 0 h, eq-eqb (get_or row end 0) x e, before, n, add-one)

  pub run_ends : end < length row → (get_or row end 0 ≡ x → ⊥) → runs_after (run from (end - 1) x) (drop end row) ≡ run from (end - 1) x ∷ runs_from end (drop end row)
  unfolding runs_after runs_from
  run_ends h e = rw (drop-cons row end 0 h, ne_eqb (get_or row end 0) x e, before)

  pub run_out : length row ≤ end → runs_after (run from (end - 1) x) (drop end row) ≡ run from (end - 1) x ∷ runs_from end (drop end row)
  unfolding runs_after runs_from
  run_out h = rw (drop_of_length-le row {i = end} h)

-- ---- lines
pub lines_turn : (p : Page) {q : Page} (row : List ℕ) (from past : ℕ) → Ended row from past → q ≡ onto p (line_of (run from (past - 1) (get_or row from 0))) → onto q (lines_of (runs_from past (drop past row))) ≡ onto p (lines_of (runs_from from (drop from row)))
unfolding lines_of
lines_turn p row from past h e = rw (h.runs, e, onto_append)

pub lines_done : (p : Page) (row : List ℕ) (from : ℕ) → length row ≤ from → onto p (lines_of (runs_from from (drop from row))) ≡ p
unfolding onto runs_from lines_of
lines_done p row from h = rw (drop_of_length-le row {i = from} h)

-- ---- states
pub states_turn : (p : Page) {q : Page} (grid : List ℕ) (s : ℕ) → s < 9 → q ≡ onto p (state_text s (take (256 * s + 256 - 256 * s) (drop (256 * s) grid))) → onto q (states_from grid (9 - (s + 1)) (s + 1)) ≡ onto p (states_from grid (9 - s) s)
unfolding states_from row_of
states_turn p grid s h e =
    let n : 9 - s ≡ suc (9 - (s + 1)) = omega arith in
    let m : 256 * s + 256 - 256 * s ≡ 256 = omega arith in
    rw (n, e, m, onto_append, add-one)

pub states_done : (p : Page) (grid : List ℕ) (s : ℕ) → 9 ≤ s → onto p (states_from grid (9 - s) s) ≡ p
unfolding onto states_from
states_done p grid s h = let n : 9 - s ≡ 0 = omega arith in rw n
