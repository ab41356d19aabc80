-- A grid as text: a state's number, and a line for each run of equal entries in its row.
use Rattle.std.specs.Prelude.{cond, List, [], ◌∷◌, ◌++◌, ℕ, zero, suc, ◌-◌, ◌*◌, eqb, take, drop, replicate}
use Rattle.scribe.specs.Text.{ascii, newline, hex_of, decimal_of}
use Rattle.utf8_sheet.specs.declared.sheet.Run.{Run}

-- ---- runs: the bytes from the first to the last, both counted in, have this entry
abbrev pub run : ℕ → ℕ → ℕ → Run
run first last entry = record { first = first; last = last; entry = entry }

-- one byte more
abbrev pub longer : Run → Run
longer r = run r.first (suc r.last) r.entry

-- a run that can go on, and the entries after it: an entry like its own makes it longer, another one starts the next run
unfoldable pub runs_after : Run → List ℕ → List Run
runs_after r [] = r ∷ []
runs_after r (x ∷ xs) = cond (eqb x r.entry) (runs_after (longer r) xs) (r ∷ runs_after (run (suc r.last) (suc r.last) x) xs)

-- of the entries of the bytes from i on
unfoldable pub runs_from : ℕ → List ℕ → List Run
runs_from i [] = []
runs_from i (x ∷ xs) = runs_after (run i i x) xs

unfoldable pub runs_of : List ℕ → List Run
runs_of row = runs_from 0 row

-- what a run stands for: its entry, once for each byte
unfoldable pub run_entries : Run → List ℕ
run_entries r = replicate (suc r.last - r.first) r.entry

unfoldable pub entries_of : List Run → List ℕ
entries_of [] = []
entries_of (r ∷ rs) = run_entries r ++ entries_of rs

-- ---- texts
-- a byte alone, or the first and the last
unfoldable pub range_text : ℕ → ℕ → List ℕ
range_text first last = cond (eqb first last) (hex_of first) (hex_of first ++ ascii ".." ++ hex_of last)

unfoldable pub line_of : Run → List ℕ
line_of r = range_text r.first r.last ++ ascii " " ++ decimal_of r.entry ++ newline

unfoldable pub lines_of : List Run → List ℕ
lines_of [] = []
lines_of (r ∷ rs) = line_of r ++ lines_of rs

unfoldable pub state_text : ℕ → List ℕ → List ℕ
state_text s row = ascii "state " ++ decimal_of s ++ newline ++ lines_of (runs_of row)

-- a state's row: 256 entries
unfoldable pub row_of : List ℕ → ℕ → List ℕ
row_of grid s = take 256 (drop (256 * s) grid)

-- n states, the first of them with number s
unfoldable pub states_from : List ℕ → ℕ → ℕ → List ℕ
states_from grid zero s = []
states_from grid (suc n) s = state_text s (row_of grid s) ++ states_from grid n (suc s)

-- the nine states of a grid
unfoldable pub sheet_of : List ℕ → List ℕ
sheet_of grid = states_from grid 9 0
