-- A machine's outcome, and its run over a stretch of bytes. A step gives the record after one byte and by how much the
-- score changes, or that the machine drops out.
use Rattle.std.proofs.Math.Path.{◌≡◌, refl, sym, ap}
use Rattle.std.proofs.Common.{◌∙◌, not-suc-le-zero, add-one, drop-cons}
use mathlib.Core.List.{List, [], ◌∷◌, ◌++◌}
use Prim.Native.Nat.{ℕ, suc, ◌+◌, ◌-◌, ◌<◌, ◌≤◌}
use Rattle.std.proofs.Math.Nat.{add-zero}
use native.Mathlib.Omega.{arith}
use Rattle.std.specs.Prelude.{ℤ, pos, nat_abs, ◌+ℤ◌, get_or, drop}
use Rattle.std.proofs.Math.IntN.{+ℤ_assoc, +ℤ_idl}
use Rattle.std.proofs.Math.ListN.{length}
use Rattle.laws.specs.declared.Reason.{Reason}

-- D is what a drop-out carries
pub data Out (D S : Type 0) : Type 0 where
  none : D → Out D S
  live : S → ℤ → Out D S

-- a machine that drops out carries the reason
abbrev pub Outcome : Type 0 → Type 0
Outcome S = Out Reason S

-- alive, with the score as it was
abbrev pub alive : {D S : Type 0} → S → Out D S
alive m = live m (pos 0)

-- an outcome whose score is larger by k
unfoldable pub plus : {D S : Type 0} → ℤ → Out D S → Out D S
plus k (none d) = none d
plus k (live m s) = live m (k +ℤ s)

-- how many bytes an outcome takes of one: a machine that dropped out takes none
unfoldable pub takes : {D S : Type 0} → Out D S → ℕ
takes (none d) = 0
takes (live m s) = 1

module _ {D S : Type 0} (step : S → ℕ → Out D S) where
  -- one byte, from what the bytes before it gave
  unfoldable pub with_byte : Out D S → ℕ → Out D S
  with_byte (none d) b = none d
  with_byte (live m s) b = plus s (step m b)

  -- the bytes, one after the other
  unfoldable pub run : Out D S → List ℕ → Out D S
  run o [] = o
  run o (b ∷ bs) = run (with_byte o b) bs

  -- where the run ends: how many of the bytes it takes, the one at which it drops out among them
  unfoldable pub ends_at : Out D S → List ℕ → ℕ
  ends_at o [] = 0
  ends_at o (b ∷ bs) = takes o + ends_at (with_byte o b) bs

  -- the offset of the last byte that it takes
  abbrev pub last_at : Out D S → List ℕ → ℕ
  last_at o bs = ends_at o bs - 1

-- the end of the stream, from what the bytes before it gave
unfoldable pub ended : {D S : Type 0} → (S → Out D S) → Out D S → Out D S
ended close (none d) = none d
ended close (live m s) = plus s (close m)

-- ---- the three laws
pub plus_plus : {D S : Type 0} (j k : ℤ) (o : Out D S) → plus j (plus k o) ≡ plus (j +ℤ k) o
unfolding plus
plus_plus j k (none d) = refl
plus_plus j k (live m s) = ap (live m) (sym (+ℤ_assoc j k s))

pub plus_zero : {D S : Type 0} (o : Out D S) → plus (pos 0) o ≡ o
unfolding plus
plus_zero (none d) = refl
plus_zero (live m s) = ap (live m) (+ℤ_idl s)

module _ {D S : Type 0} (step : S → ℕ → Out D S) where
  pub run_nil : (o : Out D S) → run step o [] ≡ o
  unfolding run
  run_nil o = refl

  -- one byte, from a score of 0, is the step
  pub run_one : (m : S) (b : ℕ) → run step (live m (pos 0)) (b ∷ []) ≡ step m b
  unfolding run with_byte
  run_one m b = plus_zero (step m b)

  -- joining: a run over xs ++ ys is a run over ys from the run over xs
  pub run_append : (o : Out D S) (xs ys : List ℕ) → run step o (xs ++ ys) ≡ run step (run step o xs) ys
  unfolding run
  run_append o [] ys = refl
  run_append o (x ∷ xs) ys = run_append (with_byte step o x) xs ys

  -- from none it is none
  pub run_none : (d : D) (xs : List ℕ) → run step (none d) xs ≡ none d
  unfolding run with_byte
  run_none d [] = refl
  run_none d (x ∷ xs) = run_none d xs

  byte_plus : (k : ℤ) (o : Out D S) (b : ℕ) → with_byte step (plus k o) b ≡ plus k (with_byte step o b)
  unfolding with_byte plus
  byte_plus k (none d) b = refl
  byte_plus k (live m s) b = sym (plus_plus k s (step m b))

  -- shifting: from a score larger by k it ends larger by k
  pub run_plus : (k : ℤ) (o : Out D S) (xs : List ℕ) → run step (plus k o) xs ≡ plus k (run step o xs)
  unfolding run
  run_plus k o [] = refl
  run_plus k o (x ∷ xs) = ap (λ (p : Out D S). run step p xs) (byte_plus k o x) ∙ run_plus k (with_byte step o x) xs

  -- ---- for a loop: at its end, and one turn at i
  pub run_done : (o : Out D S) (xs : List ℕ) → length xs ≤ 0 → run step o xs ≡ o
  unfolding run
  run_done o [] h = refl
  run_done o (x ∷ xs) h = absurd (not-suc-le-zero h)

  pub run_turn : (o : Out D S) (xs : List ℕ) (i : ℕ) → i < length xs → run step o (drop i xs) ≡ run step (with_byte step o (get_or xs i 0)) (drop (i + 1) xs)
  unfolding run
  run_turn o xs i h = rw (drop-cons xs i 0 h, add-one)

  module _ (m : S) (s : ℤ) (xs : List ℕ) (i : ℕ) (h : i < length xs) where
    pub run_at : run step (live m s) (drop i xs) ≡ run step (plus s (step m (get_or xs i 0))) (drop (i + 1) xs)
    unfolding with_byte
    run_at = run_turn (live m s) xs i h

    pub turn_live : (n : S) (g : ℤ) → step m (get_or xs i 0) ≡ live n g → run step (live n (s +ℤ g)) (drop (i + 1) xs) ≡ run step (live m s) (drop i xs)
    unfolding plus
    turn_live n g e = sym (run_at ∙ ap (λ (o : Out D S). run step (plus s o) (drop (i + 1) xs)) e)

-- ---- where a run ends
module _ {D S : Type 0} (step : S → ℕ → Out D S) where
  -- from none it takes nothing
  pub ends_none : (d : D) (xs : List ℕ) → ends_at step (none d) xs ≡ 0
  unfolding ends_at takes with_byte
  ends_none d [] = refl
  ends_none d (x ∷ xs) = omega (arith, ends_none d xs)

  -- one byte is taken
  pub ends_one : (m : S) (b : ℕ) → ends_at step (live m (pos 0)) (b ∷ []) ≡ 1
  unfolding ends_at takes
  ends_one m b = refl

  -- joining: over xs ++ ys it ends where the run over xs does, and then where the run over ys from there does
  pub ends_append : (o : Out D S) (xs ys : List ℕ) → ends_at step o (xs ++ ys) ≡ ends_at step o xs + ends_at step (run step o xs) ys
  unfolding ends_at run
  ends_append o [] ys = omega arith
  ends_append o (x ∷ xs) ys = omega (arith, ends_append (with_byte step o x) xs ys)

  takes_plus : (k : ℤ) (o : Out D S) → takes (plus k o) ≡ takes o
  unfolding takes plus
  takes_plus k (none d) = refl
  takes_plus k (live m s) = refl

  -- shifting: the score does not matter
  pub ends_plus : (k : ℤ) (o : Out D S) (xs : List ℕ) → ends_at step (plus k o) xs ≡ ends_at step o xs
  unfolding ends_at
  ends_plus k o [] = refl
  ends_plus k o (x ∷ xs) = rw (takes_plus k o, byte_plus step k o x, ends_plus k (with_byte step o x) xs)

  takes_one : (o : Out D S) → takes o ≤ 1
  unfolding takes
  takes_one (none d) = omega arith
  takes_one (live m s) = omega arith

  pub ends_most : (o : Out D S) (xs : List ℕ) → ends_at step o xs ≤ length xs
  unfolding ends_at
  ends_most o [] = omega arith
  ends_most o (x ∷ xs) = omega (arith, takes_one o, ends_most (with_byte step o x) xs)

  -- what drops out from a live machine has taken a byte
  pub ends_some : (m : S) (s : ℤ) (xs : List ℕ) (d : D) → run step (live m s) xs ≡ none d → 1 ≤ ends_at step (live m s) xs
  unfolding run ends_at takes
  ends_some m s [] d e = let z : ◌≡◌ {A = ℕ} 0 1 = cc in absurd (omega arith)
  ends_some m s (x ∷ xs) d e = omega arith

  -- ---- for a loop: one turn at i
  module _ (m : S) (s : ℤ) (xs : List ℕ) (i : ℕ) (h : i < length xs) where
    pub ends_turn : ends_at step (live m s) (drop i xs) ≡ 1 + ends_at step (plus s (step m (get_or xs i 0))) (drop (i + 1) xs)
    unfolding ends_at takes with_byte
    ends_turn = rw (drop-cons xs i 0 h, add-one)

    pub ends_turn_live : (n : S) (g : ℤ) → step m (get_or xs i 0) ≡ live n g → ends_at step (live m s) (drop i xs) ≡ 1 + ends_at step (live n (s +ℤ g)) (drop (i + 1) xs)
    unfolding plus
    ends_turn_live n g e = ends_turn ∙ ap (λ (o : Out D S). 1 + ends_at step (plus s o) (drop (i + 1) xs)) e

-- ---- what a run keeps
-- what holds of the record and the score, where the outcome is live
abbrev pub WhenLive : {D S : Type 0} → (S → ℤ → Type 0) → Out D S → Type 0
WhenLive P (none d) = Unit {0}
WhenLive P (live m s) = P m s

pub when_more : {D S : Type 0} {P Q : S → ℤ → Type 0} → ((m : S) (s : ℤ) → P m s → Q m s) → (o : Out D S) → WhenLive P o → WhenLive Q o
when_more f (none d) h = tt
when_more f (live m s) h = f m s h

pub when_plus : {D S : Type 0} (P : S → ℤ → Type 0) (k : ℤ) (o : Out D S) → WhenLive (λ m s. P m (k +ℤ s)) o → WhenLive P (plus k o)
unfolding plus
when_plus P k (none d) h = tt
when_plus P k (live m s) h = h

-- P i is what holds after i bytes
module _ {D S : Type 0} (step : S → ℕ → Out D S) (P : ℕ → S → ℤ → Type 0) (keeps : (i : ℕ) (m : S) (s : ℤ) (b : ℕ) → P i m s → WhenLive (λ n g. P (i + 1) n (s +ℤ g)) (step m b)) where
  byte_when : (i : ℕ) (o : Out D S) (b : ℕ) → WhenLive (P i) o → WhenLive (P (i + 1)) (with_byte step o b)
  unfolding with_byte
  byte_when i (none d) b h = tt
  byte_when i (live m s) b h = when_plus (P (i + 1)) s (step m b) (keeps i m s b h)

  pub run_when : (i : ℕ) (o : Out D S) (xs : List ℕ) → WhenLive (P i) o → WhenLive (P (i + length xs)) (run step o xs)
  unfolding run
  run_when i o [] h = rw add-zero h
  run_when i o (x ∷ xs) h =
      let e : i + 1 + length xs ≡ i + suc (length xs) = omega arith in
      rw e at (run_when (i + 1) (with_byte step o x) xs (byte_when i o x h))

-- ---- why a run drops out
-- what holds of the reason, where the outcome is none
abbrev pub WhenNone : {D S : Type 0} → (D → Type 0) → Out D S → Type 0
WhenNone P (none d) = P d
WhenNone P (live m s) = Unit {0}

pub none_more : {D S : Type 0} {P Q : D → Type 0} → ((d : D) → P d → Q d) → (o : Out D S) → WhenNone P o → WhenNone Q o
none_more f (none d) h = f d h
none_more f (live m s) h = tt

pub none_plus : {D S : Type 0} (P : D → Type 0) (k : ℤ) (o : Out D S) → WhenNone P o → WhenNone P (plus k o)
unfolding plus
none_plus P k (none d) h = h
none_plus P k (live m s) h = tt

-- Q is what the step keeps of a record; from such a record it drops out for reasons of which P holds
module _ {D S : Type 0} (step : S → ℕ → Out D S) (Q : S → Type 0) (P : D → Type 0) (keeps : (m : S) (b : ℕ) → Q m → WhenLive (λ n g. Q n) (step m b)) (drops : (m : S) (b : ℕ) → Q m → WhenNone P (step m b)) where
  why_from : (o : Out D S) (xs : List ℕ) → WhenLive (λ m s. Q m) o → WhenNone P o → WhenNone P (run step o xs)
  unfolding run with_byte
  why_from o [] q p = p
  why_from (none d) (x ∷ xs) q p = why_from (none d) xs tt p
  why_from (live m s) (x ∷ xs) q p =
      why_from (plus s (step m x)) xs (when_plus (λ n g. Q n) s (step m x) (keeps m x q)) (none_plus P s (step m x) (drops m x q))

  pub run_why : (m : S) (s : ℤ) (xs : List ℕ) → Q m → WhenNone P (run step (live m s) xs)
  run_why m s xs q = why_from (live m s) xs q tt

-- a live outcome has a record of which P holds, and a score of size at most c
abbrev pub Within : {D S : Type 0} → (S → Type 0) → ℕ → Out D S → Type 0
Within P c o = WhenLive (λ m s. P m × (nat_abs s ≤ c)) o
