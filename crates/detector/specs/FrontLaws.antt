-- Laws of the front end: what the code's offsets stand for, and what the saved context and the counts come to.
use Rattle.std.specs.Prelude.{◌≡◌, Bool, true, false, cond, ℕ, zero, suc, ◌+◌, ◌-◌, ◌<◌, ◌≤◌, eqb, ltb, get_or, take, drop}
use Rattle.std.proofs.Math.Path.{refl}
use Rattle.std.proofs.Common.{ap, ◌∙◌, length-take, length-append, get_or-drop, lt-ltb, le-ltb}
use mathlib.Core.List.{List, [], ◌∷◌, ◌++◌}
use native.Mathlib.Omega.{arith}
use Rattle.std.proofs.Math.ListN.{length, length-drop}
use Rattle.laws.specs.Lists.{any, count, last, any_append, any_drop, count_append, count_most, count_some, last_length}
use Rattle.laws.specs.Tests.{neither, either}
use Rattle.octets.specs.Octets.{non_ascii}
use Rattle.context.specs.Context.{bytes_of, context_of, push_of}
use Rattle.context.specs.ContextLaws.{bytes_most, push_bytes}
use Rattle.context.specs.Head.{escape, is_trigger, scan_of, non_ascii_count}
use Rattle.context.specs.HeadLaws.{First, FirstAt, scan_first}
use Rattle.context.specs.declared.Context.{Context}
use Rattle.context.specs.declared.Scanned.{Scanned}
use Rattle.context.specs.declared.Scanned.TheVariants as scanned
use Rattle.state.specs.State.{triggered}
use Rattle.detector.specs.Front.{found_as, trigger_of, Reaches, some, reaches_at, reaches_by, bytes_in, context_at, body_by}
use Rattle.detector.specs.Due.{due_as, DueAt, DueBy, trigger_offset, Here, WithinAt, WithinBy}
use Rattle.state.specs.Order.{Saved}
use Rattle.detector.specs.declared.front.Due.{Due}
use Rattle.detector.specs.declared.front.Due.TheVariants.{Nothing, Part, After}
use Rattle.state.specs.declared.front.Front.{Front}
use Rattle.detector.specs.declared.front.Trigger.{Trigger}
use Rattle.detector.specs.declared.front.Trigger.TheVariants.{Earlier, Escape, NonAscii, Nowhere}

-- ---- the code's offsets
take_taken : {A : Type 0} (n : ℕ) (xs : List A) → take (length (take n xs)) xs ≡ take n xs
take_taken zero xs = refl
take_taken (suc n) [] = refl
take_taken (suc n) (x ∷ xs) = ap (λ (l : List _). x ∷ l) (take_taken n xs)

module _ (c : Context) (n : ℕ) where
  pub due_after : (k : ℕ) → n < 2 → k ≡ length (bytes_of c) → DueAt c n (After k)
  unfolding due_as reaches_at
  due_after k h e xs = rw (lt-ltb n 2 h, e) (ap (λ (l : List ℕ). some l xs) (take_taken c.len (c.first ∷ c.second ∷ [])))

  pub due_part : 2 ≤ n → DueAt c n (Part (n - 2))
  unfolding due_as reaches_at
  due_part h xs = rw (le-ltb n 2 h)

  pub context_emptied : n < 2 → context_of [] ≡ context_at c n
  unfolding context_at
  context_emptied h = rw (lt-ltb n 2 h)

  pub context_kept : 2 ≤ n → c ≡ context_at c n
  unfolding context_at
  context_kept h = rw (le-ltb n 2 h)

module _ (c : Context) where
  pub due_earlier : DueBy c Earlier (Part 0)
  unfolding due_as reaches_by
  due_earlier xs = refl

  pub due_escape : (n : ℕ) (d : Due) → DueAt c n d → DueBy c (Escape n) d
  unfolding reaches_by
  due_escape n d h xs = h xs

  pub due_non_ascii : (n : ℕ) (d : Due) → DueAt c n d → DueBy c (NonAscii n) d
  unfolding reaches_by
  due_non_ascii n d h xs = h xs

  pub due_nowhere : DueBy c Nowhere Nothing
  unfolding due_as reaches_by
  due_nowhere xs = refl

-- ---- the trigger
module _ (f : Front) (xs : List ℕ) where
  pub trigger_earlier : triggered f ≡ true → Earlier ≡ trigger_of f xs
  unfolding trigger_of
  trigger_earlier e = rw e

  pub trigger_found : (r : Scanned) → triggered f ≡ false → r ≡ scan_of xs → found_as r ≡ trigger_of f xs
  unfolding trigger_of
  trigger_found r e q = rw (e, q)

-- ---- what the scan found
module _ (xs : List ℕ) where
  pub no_trigger : scan_of xs ≡ scanned.End → any is_trigger xs ≡ false
  no_trigger e = rw e at (scan_first xs)

  pub escape_at : (n : ℕ) → scan_of xs ≡ scanned.Escape n → n < length xs
  escape_at n e = found.within
    where
      found : First xs (scanned.Escape n)
      found = rw e at (scan_first xs)

  pub non_ascii_at : (n : ℕ) → scan_of xs ≡ scanned.NonAscii n → FirstAt (λ (b : ℕ). non_ascii b ≡ true) xs n
  non_ascii_at n e = rw e at (scan_first xs)

-- ---- the code's offset and number
pub within_by : (c : Context) (g : Trigger) (d : Due) → Here g → WithinAt c (trigger_offset g) d → WithinBy c g d
within_by c g Nothing h w = tt
within_by c g (Part n) h w = w
within_by c g (After k) h w = (w, h)

found_offset : (xs : List ℕ) (r : Scanned) → scan_of xs ≡ r → trigger_offset (found_as r) ≤ length xs
found_offset xs (scanned.Escape n) e = omega (arith, escape_at xs n e)
found_offset xs (scanned.NonAscii n) e = omega (arith, (non_ascii_at xs n e).within)
found_offset xs scanned.End e = omega arith

offset_at : (xs : List ℕ) (t : Bool) → trigger_offset (cond t Earlier (found_as (scan_of xs))) ≤ length xs
offset_at xs true = omega arith
offset_at xs false = found_offset xs (scan_of xs) refl

module _ (f : Front) (xs : List ℕ) (g : Trigger) (e : g ≡ trigger_of f xs) (d : Due) (w : WithinBy f.context g d) where
  offset_most : trigger_offset g ≤ length xs
  unfolding trigger_of
  offset_most = rw e (offset_at xs (triggered f))

  pub part_within : (n : ℕ) → d ≡ Part n → n ≤ length xs
  part_within n q = let h : n ≤ trigger_offset g = rw q at w in omega (arith, h, offset_most)

  -- what the code lends of the context is what it holds
  pub after_within : (k : ℕ) → d ≡ After k → (k ≤ 2) × (take k (f.context.first ∷ f.context.second ∷ []) ≡ bytes_of f.context)
  after_within k q =
      let h : (k ≡ length (bytes_of f.context)) × Here g = rw q at w in
      (rw h.0 (bytes_most f.context), rw h.0 (take_taken f.context.len (f.context.first ∷ f.context.second ∷ [])))

  here_new : (t : Bool) → g ≡ cond t Earlier (found_as (scan_of xs)) → Here g → t ≡ false
  here_new true q h = absurd (rw q at h)
  here_new false q h = refl

  pub after_new : (k : ℕ) → d ≡ After k → triggered f ≡ false
  unfolding trigger_of
  after_new k q = let h : (k ≡ length (bytes_of f.context)) × Here g = rw q at w in here_new (triggered f) e h.1

-- ---- the bytes from the end of the head on
module _ (n : ℕ) (xs : List ℕ) where
  pub body_more : (g : Trigger) → n ≤ body_by n xs g
  unfolding body_by
  body_more Earlier = omega arith
  body_more (Escape at) = omega arith
  body_more (NonAscii at) = omega arith
  body_more Nowhere = omega arith

  pub body_most : (g : Trigger) → body_by n xs g ≤ n + length xs
  unfolding body_by
  body_most Earlier = omega arith
  body_most (Escape at) = omega arith
  body_most (NonAscii at) = omega arith
  body_most Nowhere = omega arith

-- ---- triggerless bytes: neither 0x1B nor non-ASCII
pub triggerless_count : (xs : List ℕ) → any is_trigger xs ≡ false → non_ascii_count xs ≡ 0
unfolding any count
triggerless_count [] e = refl
triggerless_count (x ∷ xs) e =
    let h = neither (is_trigger x) (any is_trigger xs) e in
    let n = (neither (eqb x escape) (non_ascii x) h.0).1 in
    rw (n, triggerless_count xs h.1)

-- ---- the saved context
len_held : (c : Context) → c.len ≤ 2 → length (bytes_of c) ≡ c.len
len_held c h = rw length-take (omega arith)

context_length : (xs : List ℕ) → length xs ≤ 2 → (context_of xs).len ≡ length xs
context_length [] h = refl
context_length (a ∷ []) h = refl
context_length (a ∷ b ∷ []) h = refl
context_length (a ∷ b ∷ x ∷ xs) h = absurd (omega (arith, h))

last_shorter : (xs : List ℕ) → length (last 2 xs) ≤ length xs
unfolding last
last_shorter xs = rw length-drop (omega arith)

pub push_len : (c : Context) (xs : List ℕ) → c.len ≤ 2 → ((push_of c xs).len ≤ 2) × ((push_of c xs).len ≤ c.len + length xs)
unfolding push_of
push_len c [] h = (h, omega arith)
push_len c (x ∷ xs) h =
    let l = last 2 (bytes_of c ++ (x ∷ xs)) in
    let e = context_length (last 2 (bytes_of c ++ (x ∷ xs))) (last_length 2 (bytes_of c ++ (x ∷ xs))) in
    let s : length (bytes_of c ++ (x ∷ xs)) ≡ c.len + length (x ∷ xs) = length-append (bytes_of c) (x ∷ xs) ∙ ap (λ (n : ℕ). n + length (x ∷ xs)) (len_held c h) in
    (rw e (last_length 2 (bytes_of c ++ (x ∷ xs))), rw e (omega (arith, last_shorter (bytes_of c ++ (x ∷ xs)), s)))

triggerless_last : (l : List ℕ) → any is_trigger l ≡ false → any is_trigger (last 2 l) ≡ false
unfolding last
triggerless_last l h = any_drop is_trigger (length l - 2) l h

pub push_saved : (c : Context) (xs : List ℕ) → Saved c → any is_trigger xs ≡ false → Saved (push_of c xs)
push_saved c xs s e =
    let all : any is_trigger (bytes_of c ++ xs) ≡ false = any_append is_trigger (bytes_of c) xs ∙ rw (s.triggerless, e) in
    record { two = (push_len c xs s.two).0; triggerless = ap (any is_trigger) (push_bytes c xs) ∙ triggerless_last (bytes_of c ++ xs) all }

-- ---- counts
module _ (c : Context) (s : Saved c) (xs : List ℕ) (n : ℕ) where
  before_triggerless : (ys : List ℕ) → non_ascii_count (bytes_of c ++ ys) ≡ non_ascii_count ys
  before_triggerless ys = count_append non_ascii (bytes_of c) ys ∙ rw (triggerless_count (bytes_of c) s.triggerless) (omega arith)

  pub at_most : non_ascii_count (bytes_in (reaches_at c xs n)) ≤ length xs
  unfolding reaches_at
  at_most =
      either (λ (r : Reaches). non_ascii_count (bytes_in r) ≤ length xs) (ltb n 2)
      (λ e. rw (before_triggerless xs) (count_most non_ascii xs))
      (λ e. omega (arith, count_most non_ascii (drop (n - 2) xs), length-drop (n - 2) xs))

  -- the trigger is among the bytes that reach the places
  pub at_least : FirstAt (λ (b : ℕ). non_ascii b ≡ true) xs n → 1 ≤ non_ascii_count (bytes_in (reaches_at c xs n))
  unfolding reaches_at
  at_least f =
      either (λ (r : Reaches). 1 ≤ non_ascii_count (bytes_in r)) (ltb n 2)
      (λ e. rw (before_triggerless xs) (count_some non_ascii n xs 0 f.within f.there))
      (λ e. late (n - (n - 2)) (omega arith))
    where
      late : (k : ℕ) → n - 2 + k ≡ n → 1 ≤ non_ascii_count (drop (n - 2) xs)
      late k q = count_some non_ascii k (drop (n - 2) xs) 0 (rw length-drop (omega (arith, f.within, q))) (ap non_ascii (get_or-drop (n - 2) xs k 0) ∙ (ap (λ (i : ℕ). non_ascii (get_or xs i 0)) q ∙ f.there))
