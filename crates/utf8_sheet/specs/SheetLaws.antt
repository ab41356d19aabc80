-- The runs of a row leave nothing out, follow each other without a gap, and are as long as they can be.
use Rattle.std.specs.Prelude.{◌≡◌, refl, List, [], ◌∷◌, ◌++◌, ℕ, zero, suc, ◌+◌, ◌-◌, ◌≤◌, eqb, length, replicate}
use Rattle.std.proofs.Common.{sym, ap, ◌∙◌, arith, eqb-true}
use Rattle.std.proofs.lemmas.Bool.{eqb-false}
use Rattle.laws.specs.Tests.{either}
use Rattle.utf8_sheet.specs.declared.sheet.Run.{Run}
use Rattle.utf8_sheet.specs.Sheet.{run, longer, runs_after, runs_from, runs_of, run_entries, entries_of}

-- the run that an entry starts after another run
abbrev next : Run → ℕ → Run
next r x = run (suc r.last) (suc r.last) x

-- ---- what the runs stand for is the row
again : (n x : ℕ) (xs : List ℕ) → replicate (suc n) x ++ xs ≡ replicate n x ++ (x ∷ xs)
again zero x xs = refl
again (suc n) x xs = ap {B = List ℕ} (λ (l : List ℕ). x ∷ l) (again n x xs)

entries_longer : (r : Run) (x : ℕ) (xs : List ℕ) → r.first ≤ suc r.last → x ≡ r.entry → run_entries (longer r) ++ xs ≡ run_entries r ++ (x ∷ xs)
unfolding run_entries
entries_longer r x xs h e =
    let n : suc (suc r.last) - r.first ≡ suc (suc r.last - r.first) = omega arith in
    rw (n, e) (again (suc r.last - r.first) r.entry xs)

entries_next : (r : Run) (x : ℕ) (xs : List ℕ) → run_entries (next r x) ++ xs ≡ x ∷ xs
unfolding run_entries
entries_next r x xs = let n : suc (suc r.last) - suc r.last ≡ 1 = omega arith in rw n

entries_after : (r : Run) (xs : List ℕ) → r.first ≤ suc r.last → entries_of (runs_after r xs) ≡ run_entries r ++ xs
unfolding runs_after entries_of
entries_after r [] h = refl
entries_after r (x ∷ xs) h =
    either (λ (rs : List Run). entries_of rs ≡ run_entries r ++ (x ∷ xs)) (eqb x r.entry) (λ e. entries_after (longer r) xs (omega (arith, h)) ∙ entries_longer r x xs h (eqb-true x r.entry e))
    (λ e. ap (λ (l : List ℕ). run_entries r ++ l) (entries_after (next r x) xs (omega arith) ∙ entries_next r x xs))

pub nothing_left_out : (row : List ℕ) → entries_of (runs_of row) ≡ row
unfolding runs_of runs_from entries_of run_entries
nothing_left_out [] = refl
nothing_left_out (x ∷ xs) = entries_after (run 0 0 x) xs (omega arith)

-- ---- neighbouring runs have different entries
-- the first of the runs, if there is one, has another entry than x
abbrev pub Other : ℕ → List Run → Type 0
Other x [] = Unit {0}
Other x (r ∷ rs) = x ≡ r.entry → ⊥

abbrev pub Differ : List Run → Type 0
Differ [] = Unit {0}
Differ (r ∷ rs) = Other r.entry rs × Differ rs

other_after : (x : ℕ) (r : Run) (xs : List ℕ) → (x ≡ r.entry → ⊥) → Other x (runs_after r xs)
unfolding runs_after
other_after x r [] h = h
other_after x r (y ∷ ys) h = either (Other x) (eqb y r.entry) (λ e. other_after x (longer r) ys h) (λ e. h)

differ_after : (r : Run) (xs : List ℕ) → Differ (runs_after r xs)
unfolding runs_after
differ_after r [] = (tt, tt)
differ_after r (x ∷ xs) =
    either Differ (eqb x r.entry) (λ e. differ_after (longer r) xs) (λ e. (other_after r.entry (next r x) xs (λ q. eqb-false x r.entry e (sym q)), differ_after (next r x) xs))

pub neighbours_differ : (row : List ℕ) → Differ (runs_of row)
unfolding runs_of runs_from
neighbours_differ [] = tt
neighbours_differ (x ∷ xs) = differ_after (run 0 0 x) xs

-- ---- the first run starts at 0, each other one after the last byte of the one before it, and the last one ends where the row does
abbrev pub Cover : ℕ → ℕ → List Run → Type 0
Cover i n [] = i ≡ n
Cover i n (r ∷ rs) = (r.first ≡ i) × ((r.first ≤ r.last) × Cover (suc r.last) n rs)

cover_after : (r : Run) (xs : List ℕ) (n : ℕ) → r.first ≤ r.last → suc r.last + length xs ≡ n → Cover r.first n (runs_after r xs)
unfolding runs_after
cover_after r [] n h e = (refl, (h, omega (arith, e)))
cover_after r (x ∷ xs) n h e =
    either (Cover r.first n) (eqb x r.entry) (λ q. cover_after (longer r) xs n (omega (arith, h)) (omega (arith, e)))
    (λ q. (refl, (h, cover_after (next r x) xs n (omega arith) (omega (arith, e)))))

pub no_gap : (row : List ℕ) → Cover 0 (length row) (runs_of row)
unfolding runs_of runs_from
no_gap [] = refl
no_gap (x ∷ xs) = cover_after (run 0 0 x) xs (suc (length xs)) (omega arith) (omega arith)
