-- The scan gives the first byte that is the escape or non-ASCII, and nothing before it is.
use Rattle.std.specs.Prelude.{◌≡◌, refl, Bool, true, false, cond, not, List, [], ◌∷◌, ◌++◌, ℕ, zero, suc, ◌+◌, ◌-◌, ◌*◌, ◌<◌, ◌≤◌, eqb, length, get_or, take, drop}
use Rattle.std.specs.List.{prefix_len}
use Rattle.std.specs.Simd.{first_chunks}
use Rattle.std.proofs.Common.{sym, ap, ◌∙◌, append-nil, add-zero, zero-add, not-suc-le-zero, add-one, arith, length-take, length-drop, take-append-drop, drop-cons, drop-drop, get_or-drop, eq-eqb, ne_eqb, eqb-true}
use Rattle.std.proofs.Math.ListN.{drop_of_length-le}
use Rattle.laws.specs.Lists.{any, count, block_is}
use Rattle.laws.specs.Tests.{neither}
use Rattle.octets.specs.Octets.{non_ascii}
use Rattle.context.specs.declared.Scanned.{Scanned}
use Rattle.context.specs.declared.Scanned.TheVariants.{Escape, NonAscii, End}
use Rattle.context.specs.Head.{escape, is_trigger, head_of, scanned_at, scan_of, non_ascii_count}

-- ---- the scan of what is left of a chunk, from offset n on
unfoldable pub scan_from : ℕ → List ℕ → Scanned
scan_from n xs = scanned_at (n + length (head_of xs)) (drop (length (head_of xs)) xs)

pub scan_start : (xs : List ℕ) → scan_from 0 xs ≡ scan_of xs
unfolding scan_from scan_of
scan_start xs = rw zero-add

scan_trigger : (n b : ℕ) (bs : List ℕ) → is_trigger b ≡ true → scan_from n (b ∷ bs) ≡ cond (eqb b escape) (Escape n) (NonAscii n)
unfolding scan_from head_of
scan_trigger n b bs e = rw (e, add-zero)

scan_triggerless : (n b : ℕ) (bs : List ℕ) → is_trigger b ≡ false → scan_from n (b ∷ bs) ≡ scan_from (n + 1) bs
unfolding scan_from head_of
scan_triggerless n b bs e = let q : n + suc (length (head_of bs)) ≡ n + 1 + length (head_of bs) = omega arith in rw (e, q)

-- ---- at the end of the chunk, and at the byte at i
pub scan_done : (n : ℕ) (xs : List ℕ) → length xs ≤ 0 → End ≡ scan_from n xs
unfolding scan_from head_of
scan_done n [] h = refl
scan_done n (x ∷ xs) h = absurd (not-suc-le-zero h)

module _ (xs : List ℕ) (i : ℕ) (h : i < length xs) where
  pub turn_escape : get_or xs i 0 ≡ escape → Escape i ≡ scan_from i (drop i xs)
  turn_escape e =
      let q : eqb (get_or xs i 0) escape ≡ true = eq-eqb _ _ e in
      sym (ap (scan_from i) (drop-cons xs i 0 h) ∙ scan_trigger i (get_or xs i 0) (drop (suc i) xs) (rw q) ∙ rw q)

  pub turn_non_ascii : (get_or xs i 0 ≡ escape → ⊥) → non_ascii (get_or xs i 0) ≡ true → NonAscii i ≡ scan_from i (drop i xs)
  turn_non_ascii e f =
      let q : eqb (get_or xs i 0) escape ≡ false = ne_eqb _ _ e in
      sym (ap (scan_from i) (drop-cons xs i 0 h) ∙ scan_trigger i (get_or xs i 0) (drop (suc i) xs) (rw (q, f)) ∙ rw q)

  pub turn_triggerless : (get_or xs i 0 ≡ escape → ⊥) → non_ascii (get_or xs i 0) ≡ false → scan_from (i + 1) (drop (i + 1) xs) ≡ scan_from i (drop i xs)
  turn_triggerless e f =
      let q : eqb (get_or xs i 0) escape ≡ false = ne_eqb _ _ e in
      sym (ap (scan_from i) (drop-cons xs i 0 h) ∙ scan_triggerless i (get_or xs i 0) (drop (suc i) xs) (rw (q, f)) ∙ rw add-one)

-- ---- past a list with no trigger, and past the block from i to e
pub scan_past : (n : ℕ) (xs ys : List ℕ) → any is_trigger xs ≡ false → scan_from n (xs ++ ys) ≡ scan_from (n + length xs) ys
unfolding any
scan_past n [] ys e = rw add-zero
scan_past n (x ∷ xs) ys e =
    let q = neither (is_trigger x) (any is_trigger xs) e in
    let s : n + 1 + length xs ≡ n + suc (length xs) = omega arith in
    scan_triggerless n x (xs ++ ys) q.0 ∙ (scan_past (n + 1) xs ys q.1 ∙ ap (λ (k : ℕ). scan_from k ys) s)

pub turn_block : (xs : List ℕ) (i e : ℕ) → i ≤ e → e ≤ length xs → any is_trigger (take (e - i) (drop i xs)) ≡ false → scan_from e (drop e xs) ≡ scan_from i (drop i xs)
turn_block xs i e h k q =
    let block = take (e - i) (drop i xs) in
    let n : i + length block ≡ e = simp (length-take, length-drop) (omega arith) in
    sym (ap (scan_from i) (sym (block_is xs i e h)) ∙ (scan_past i block (drop e xs) q ∙ ap (λ (m : ℕ). scan_from m (drop e xs)) n))

-- ---- the bytes that stand before the first trigger, counted, and the byte after them
head_prefix_at : (t : Bool) (b : ℕ) (bs : List ℕ) → prefix_len (λ b. not (is_trigger b)) bs ≡ length (head_of bs) → cond (not t) (1 + prefix_len (λ b. not (is_trigger b)) bs) 0 ≡ length (cond t [] (b ∷ head_of bs))
head_prefix_at true b bs e = refl
head_prefix_at false b bs e = omega (arith, e)

pub head_prefix : (xs : List ℕ) → prefix_len (λ b. not (is_trigger b)) xs ≡ length (head_of xs)
unfolding head_of
head_prefix [] = refl
head_prefix (b ∷ bs) = head_prefix_at (is_trigger b) b bs (head_prefix bs)

pub scan_prefix : (from n : ℕ) (xs : List ℕ) → n ≡ prefix_len (λ b. not (is_trigger b)) (drop from xs) → scan_from from (drop from xs) ≡ scanned_at (from + n) (drop (from + n) xs)
unfolding scan_from
scan_prefix from n xs e =
    let q : length (head_of (drop from xs)) ≡ n = sym (e ∙ head_prefix (drop from xs)) in
    rw (q, drop-drop)

module _ (xs : List ℕ) (i : ℕ) where
  pub scanned_end : length xs ≤ i → End ≡ scanned_at i (drop i xs)
  scanned_end h = rw (drop_of_length-le xs h)

  pub scanned_escape : i < length xs → get_or xs i 0 ≡ escape → Escape i ≡ scanned_at i (drop i xs)
  scanned_escape h e = rw (drop-cons xs i 0 h, eq-eqb _ _ e)

  pub scanned_non_ascii : i < length xs → (get_or xs i 0 ≡ escape → ⊥) → NonAscii i ≡ scanned_at i (drop i xs)
  scanned_non_ascii h e = rw (drop-cons xs i 0 h, ne_eqb _ _ e)

-- ---- the blocks of n that stand before the first that has a trigger: past them the scan goes on as it began
abbrev pub clear_blocks : ℕ → ℕ → List ℕ → ℕ
clear_blocks n k xs = prefix_len (λ block. not (any is_trigger block)) (first_chunks n k xs)

past_one : (t : Bool) (n c i : ℕ) (xs : List ℕ) → n ≤ length xs → any is_trigger (take n xs) ≡ t → scan_from (i + n + c * n) (drop (c * n) (drop n xs)) ≡ scan_from (i + n) (drop n xs) → scan_from (i + cond (not t) (1 + c) 0 * n) (drop (cond (not t) (1 + c) 0 * n) xs) ≡ scan_from i xs
past_one true n c i xs h e q = let z : 0 * n ≡ 0 = omega arith in rw (z, add-zero)
past_one false n c i xs h e q =
    let m : n + c * n ≡ (1 + c) * n = omega arith in
    let at : i + n + c * n ≡ i + (1 + c) * n = omega arith in
    let long : i + length (take n xs) ≡ i + n = simp length-take (omega arith) in
    let rest : drop (c * n) (drop n xs) ≡ drop ((1 + c) * n) xs = drop-drop (c * n) n xs ∙ ap (λ (k : ℕ). drop k xs) m in
    let first : scan_from i xs ≡ scan_from (i + n) (drop n xs) = ap (scan_from i) (sym (take-append-drop n xs)) ∙ (scan_past i (take n xs) (drop n xs) e ∙ ap (λ (k : ℕ). scan_from k (drop n xs)) long) in
    rw (at, rest) at q ∙ sym first

pub past_clear : (n k i : ℕ) (xs : List ℕ) → k * n ≤ length xs → scan_from (i + clear_blocks n k xs * n) (drop (clear_blocks n k xs * n) xs) ≡ scan_from i xs
past_clear n zero i xs h = let z : 0 * n ≡ 0 = omega arith in rw (z, add-zero)
past_clear n (suc k) i xs h = past_one (any is_trigger (take n xs)) n (clear_blocks n k (drop n xs)) i xs (omega arith) refl (past_clear n k (i + n) (drop n xs) (rw length-drop (omega arith)))

-- ---- the head has no trigger, and what follows it begins with one or is empty
head_triggerless_at : (t : Bool) (b : ℕ) (l : List ℕ) → is_trigger b ≡ t → any is_trigger l ≡ false → any is_trigger (cond t [] (b ∷ l)) ≡ false
unfolding any
head_triggerless_at true b l e q = refl
head_triggerless_at false b l e q = rw (e, q)

pub head_triggerless : (xs : List ℕ) → any is_trigger (head_of xs) ≡ false
unfolding head_of any
head_triggerless [] = refl
head_triggerless (b ∷ bs) = head_triggerless_at (is_trigger b) b (head_of bs) refl (head_triggerless bs)

head_take_at : (t : Bool) (b : ℕ) (l bs : List ℕ) → take (length l) bs ≡ l → take (length (cond t [] (b ∷ l))) (b ∷ bs) ≡ cond t [] (b ∷ l)
head_take_at true b l bs e = refl
head_take_at false b l bs e = ap (λ (x : List ℕ). b ∷ x) e

-- what has no trigger has no byte that is not ASCII
pub triggerless_ascii : (xs : List ℕ) → any is_trigger xs ≡ false → non_ascii_count xs ≡ 0
unfolding any count
triggerless_ascii [] e = refl
triggerless_ascii (b ∷ bs) e =
    let p = neither (is_trigger b) (any is_trigger bs) e in
    let q = neither (eqb b escape) (non_ascii b) p.0 in
    rw (q.1, triggerless_ascii bs p.1)

pub head_take : (xs : List ℕ) → take (length (head_of xs)) xs ≡ head_of xs
unfolding head_of
head_take [] = refl
head_take (b ∷ bs) = head_take_at (is_trigger b) b (head_of bs) bs (head_take bs)

abbrev pub Starts : List ℕ → Type 0
Starts [] = Unit {0}
Starts (b ∷ bs) = is_trigger b ≡ true

starts_at : (t : Bool) (b : ℕ) (l bs : List ℕ) → is_trigger b ≡ t → Starts (drop (length l) bs) → Starts (drop (length (cond t [] (b ∷ l))) (b ∷ bs))
starts_at true b l bs e q = e
starts_at false b l bs e q = q

pub head_stops : (xs : List ℕ) → Starts (drop (length (head_of xs)) xs)
unfolding head_of
head_stops [] = tt
head_stops (b ∷ bs) = starts_at (is_trigger b) b (head_of bs) bs refl (head_stops bs)

-- ---- the promise
-- at n stands a byte of which P holds, and nothing before n is a trigger
pub record FirstAt (P : ℕ → Type 0) (xs : List ℕ) (n : ℕ) : Type 0 where
  pub within : n < length xs
  pub there : P (get_or xs n 0)
  pub before : any is_trigger (take n xs) ≡ false

abbrev pub First : List ℕ → Scanned → Type 0
First xs (Escape n) = FirstAt (λ (b : ℕ). b ≡ escape) xs n
First xs (NonAscii n) = FirstAt (λ (b : ℕ). non_ascii b ≡ true) xs n
First xs End = any is_trigger xs ≡ false

module _ (xs : List ℕ) (n : ℕ) (clear : any is_trigger (take n xs) ≡ false) where
  module _ (b : ℕ) (bs : List ℕ) (d : drop n xs ≡ b ∷ bs) where
    inside : n < length xs
    inside = let h : length xs - n ≡ suc (length bs) = sym (length-drop n xs) ∙ ap length d in omega arith

    byte_is : get_or xs n 0 ≡ b
    byte_is = ap (λ (k : ℕ). get_or xs k 0) (sym (add-zero n)) ∙ (sym (get_or-drop n xs 0 0) ∙ ap (λ (l : List ℕ). get_or l 0 0) d)

    first_byte : (t : Bool) → eqb b escape ≡ t → (t ≡ false → non_ascii b ≡ true) → First xs (cond t (Escape n) (NonAscii n))
    first_byte true e q = record { within = inside; there = byte_is ∙ eqb-true b escape e; before = clear }
    first_byte false e q = record { within = inside; there = ap non_ascii byte_is ∙ q refl; before = clear }

  pub first_where : (other : (b : ℕ) → is_trigger b ≡ true → eqb b escape ≡ false → non_ascii b ≡ true) (ys : List ℕ) → drop n xs ≡ ys → Starts ys → First xs (scanned_at n ys)
  first_where other [] d q =
      let whole : take n xs ≡ xs = sym (append-nil (take n xs)) ∙ (ap (λ (l : List ℕ). take n xs ++ l) (sym d) ∙ take-append-drop n xs) in
      rw whole at clear
  first_where other (b ∷ bs) d q = first_byte b bs d (eqb b escape) refl (other b q)

-- The scan gives the first byte that is the escape or non-ASCII, and nothing before it qualifies.
pub scan_first : (xs : List ℕ) → First xs (scan_of xs)
unfolding scan_of
scan_first xs =
    let n = length (head_of xs) in
    first_where xs n (ap (any is_trigger) (head_take xs) ∙ head_triggerless xs) (λ b q e. rw e at q) (drop n xs) refl (head_stops xs)
