-- Which bytes reach the places over a whole stream, however it is cut; and the non-ASCII count is that of the stream.
use Rattle.std.specs.Prelude.{◌≡◌, Bool, ◌||◌, ◌⊎◌, ℕ, ◌+◌, ◌-◌, ◌<◌, ◌≤◌, eqb, get_or}
use Rattle.std.proofs.Math.Path.{refl, sym, ap}
use Rattle.std.proofs.Common.{◌∙◌, add-zero, zero-add, length-append, take-append-drop, drop-cons}
use Rattle.std.proofs.Math.Bool.{true, false}
use mathlib.Core.List.{List, [], ◌∷◌, ◌++◌, append-nil, append_assoc, flatten}
use Rattle.std.proofs.Math.Logic.{inl, inr}
use native.Mathlib.Omega.{arith}
use Rattle.std.proofs.Math.Dec.{ltb}
use Rattle.std.proofs.Math.ListN.{length, take, drop, length-take, length-drop}
use Rattle.std.proofs.Math.Seq.{drop-append-le}
use borrow.Author.Tests.{lt-ltb, ltb-true, ltb-false, eq-eqb}
use Rattle.laws.specs.Lists.{any, count, last, any_append, any_drop, count_append, last_append, last_length}
use Rattle.laws.specs.Tests.{picked}
use Rattle.octets.specs.Octets.{non_ascii}
use Rattle.context.specs.Context.{context_of}
use Rattle.context.specs.ContextLaws.{bytes_context, push_context}
use Rattle.context.specs.Head.{escape, is_trigger, scan_of, non_ascii_count}
use Rattle.context.specs.HeadLaws.{FirstAt, scan_first}
use Rattle.context.specs.declared.Scanned.{Scanned}
use Rattle.context.specs.declared.Scanned.TheVariants as scanned
use Rattle.state.specs.State.{fresh, triggered}
use Rattle.detector.specs.Front.{found_as, trigger_of, none, some, reaches_at, reaches_by, reaches_of, bytes_in, context_by, esc_by, body_by, front_of}
use Rattle.detector.specs.FrontLaws.{triggerless_count, no_trigger, non_ascii_at, at_least}
use Rattle.state.specs.Order.{Saved}
use Rattle.detector.specs.Stream.{front_through, reached_by, Something, Within, Begins, FromHead, FromStream}
use Rattle.state.specs.declared.front.Front.{Front}

-- ---- after a trigger all chunks whole
grown : (e : Bool) (n k : ℕ) → (e || ltb 0 n) ≡ true → (e || ltb 0 (n + k)) ≡ true
grown true n k h = refl
grown false n k h = lt-ltb 0 (n + k) (omega (arith, ltb-true 0 n h))

module _ (f : Front) (x : List ℕ) (e : triggered f ≡ true) where
  -- and not as bytes of the context
  pub whole_reach : reaches_of f x ≡ some [] x
  unfolding trigger_of reaches_by
  whole_reach = rw e

  whole : bytes_in (reaches_of f x) ≡ x
  whole = ap bytes_in whole_reach

  pub whole_body : (front_of f x false).body ≡ f.body + length x
  unfolding trigger_of body_by
  whole_body = rw e

  pub stays_triggered : triggered (front_of f x false) ≡ true
  unfolding trigger_of esc_by
  stays_triggered = rw e (grown f.esc_seen f.non_ascii_seen _ e)

whole_chunks : (f : Front) (xs : List (List ℕ)) → triggered f ≡ true → reached_by f xs ≡ flatten xs
unfolding reached_by flatten
whole_chunks f [] e = refl
whole_chunks f (x ∷ xs) e = ap (λ (l : List ℕ). l ++ reached_by (front_of f x false) xs) (whole f x e) ∙ ap (λ (l : List ℕ). x ++ l) (whole_chunks (front_of f x false) xs (stays_triggered f x e))

-- ---- before it: the context is the last two bytes so far
pub record Untriggered (pre : List ℕ) (f : Front) : Type 0 where
  pub triggerless : any is_trigger pre ≡ false
  pub context_is : f.context ≡ context_of (last 2 pre)
  pub no_escape : f.esc_seen ≡ false
  pub none_seen : f.non_ascii_seen ≡ 0
  pub no_body : f.body ≡ 0

-- a chunk that is saved
pub record Saves (pre x : List ℕ) (f : Front) : Type 0 where
  pub next : Untriggered (pre ++ x) (front_of f x false)
  pub nothing : reaches_of f x ≡ none

-- one that has the trigger
pub record Meets (x : List ℕ) (f : Front) : Type 0 where
  pub now : triggered (front_of f x false) ≡ true
  pub reaches : Something (reaches_of f x)
  pub within : Within (front_of f x false).body (reaches_of f x)

pub not_triggered : (pre : List ℕ) (f : Front) → Untriggered pre f → triggered f ≡ false
not_triggered pre f q = rw (q.no_escape, q.none_seen)

module _ (pre x : List ℕ) (f : Front) (q : Untriggered pre f) where
  found : (r : Scanned) → scan_of x ≡ r → trigger_of f x ≡ found_as r
  unfolding trigger_of
  found r e = rw (not_triggered pre f q, e)

  untriggered_next : scan_of x ≡ scanned.End → Untriggered (pre ++ x) (front_of f x false)
  unfolding context_by esc_by body_by reaches_by count
  untriggered_next e =
      let g = found scanned.End e in
      record {
        triggerless = any_append is_trigger pre x ∙ rw (q.triggerless, no_trigger x e);
        context_is = rw (g, q.context_is) (push_context pre x);
        no_escape = rw g q.no_escape;
        none_seen = rw (g, add-zero) q.none_seen;
        no_body = rw g q.no_body;
      }

  nothing_reaches : scan_of x ≡ scanned.End → reaches_of f x ≡ none
  unfolding reaches_by
  nothing_reaches e = rw (found scanned.End e)

  untriggered_none : scan_of x ≡ scanned.End → bytes_in (reaches_of f x) ≡ []
  untriggered_none e = ap bytes_in (nothing_reaches e)

  saved : Saved f.context
  unfolding last any
  saved =
      rw q.context_is
      (record {
        two = short (last 2 pre) (last_length 2 pre);
        triggerless = ap (any is_trigger) (bytes_context (last 2 pre) (last_length 2 pre)) ∙ any_drop is_trigger (length pre - 2) pre q.triggerless;
      })
    where
      short : (l : List ℕ) → length l ≤ 2 → (context_of l).len ≤ 2
      short [] h = omega arith
      short (a ∷ []) h = omega arith
      short (a ∷ b ∷ l) h = omega arith

  -- ---- the chunk with the trigger at n
  module _ (n : ℕ) (within : n < length x) where
    last_plus : last (2 + n) (pre ++ take n x) ≡ last 2 pre ++ take n x
    unfolding last
    last_plus =
        let k = length pre - 2 in
        let e : length (pre ++ take n x) - (2 + n) ≡ length pre - 2 = rw (length-append, length-take) (omega arith) in
        rw e (drop-append-le (length pre - 2) pre (take n x) (omega arith))

    -- from what reaches the places of this chunk, with all that follows
    cut_at : (j : ℕ) (later : List ℕ) → 2 ≤ j → j ≤ 3 → any is_trigger (take n x) ≡ false → is_trigger (get_or x n 0) ≡ true → bytes_in (reaches_at f.context x n) ≡ last j (pre ++ take n x) ++ drop n x → FromHead (pre ++ (x ++ later)) (bytes_in (reaches_at f.context x n) ++ later)
    cut_at j later h i p t e =
        record {
          head = pre ++ take n x;
          rest = drop n x ++ later;
          cut = ap (λ (l : List ℕ). pre ++ (l ++ later)) (sym (take-append-drop n x)) ∙ (ap (λ (l : List ℕ). pre ++ l) (append_assoc (take n x) (drop n x) later) ∙ sym (append_assoc pre (take n x) (drop n x ++ later)));
          triggerless = any_append is_trigger pre (take n x) ∙ rw (q.triggerless, p);
          begins = rw (drop-cons x n 0 within) t;
          kept = j;
          two = h;
          three = i;
          is = ap (λ (l : List ℕ). l ++ later) e ∙ append_assoc (last j (pre ++ take n x)) (drop n x) later;
        }

    early : ltb n 2 ≡ true → bytes_in (reaches_at f.context x n) ≡ last (2 + n) (pre ++ take n x) ++ drop n x
    unfolding reaches_at
    early e =
        rw (e, last_plus, q.context_is, bytes_context (last 2 pre) (last_length 2 pre))
        (ap (λ (l : List ℕ). last 2 pre ++ l) (sym (take-append-drop n x)) ∙ sym (append_assoc (last 2 pre) (take n x) (drop n x)))

    late : ltb n 2 ≡ false → bytes_in (reaches_at f.context x n) ≡ last 2 (pre ++ take n x) ++ drop n x
    unfolding reaches_at last
    late e =
        let h = ltb-false n 2 e in
        let l : length (take n x) ≡ n = rw length-take (omega arith) in
        let a : last 2 (pre ++ take n x) ≡ drop (n - 2) (take n x) = last_append 2 pre (take n x) (rw l (omega arith)) ∙ ap (λ (k : ℕ). drop (k - 2) (take n x)) l in
        let b : drop (n - 2) (take n x ++ drop n x) ≡ drop (n - 2) (take n x) ++ drop n x = drop-append-le (n - 2) (take n x) (drop n x) (rw l (omega arith)) in
        rw e (ap (drop (n - 2)) (sym (take-append-drop n x)) ∙ (b ∙ ap (λ (k : List ℕ). k ++ drop n x) (sym a)))

    from_head : (later : List ℕ) → any is_trigger (take n x) ≡ false → is_trigger (get_or x n 0) ≡ true → FromHead (pre ++ (x ++ later)) (bytes_in (reaches_at f.context x n) ++ later)
    from_head later p t = pick (ltb n 2) refl
      where
        pick : (b : Bool) → ltb n 2 ≡ b → FromHead (pre ++ (x ++ later)) (bytes_in (reaches_at f.context x n) ++ later)
        pick true e = cut_at (2 + n) later (omega arith) (omega (arith, ltb-true n 2 e)) p t (early e)
        pick false e = cut_at 2 later (omega arith) (omega arith) p t (late e)

  -- an escape, or a non-ASCII byte
  at_escape : (n : ℕ) (later : List ℕ) → scan_of x ≡ scanned.Escape n → FromHead (pre ++ (x ++ later)) (bytes_in (reaches_of f x) ++ later)
  unfolding reaches_by
  at_escape n later e =
      let w : FirstAt (λ (b : ℕ). b ≡ escape) x n = rw e at (scan_first x) in
      rw (found (scanned.Escape n) e) (from_head n w.within later w.before (rw (eq-eqb _ _ w.there)))

  at_non_ascii : (n : ℕ) (later : List ℕ) → scan_of x ≡ scanned.NonAscii n → FromHead (pre ++ (x ++ later)) (bytes_in (reaches_of f x) ++ later)
  unfolding reaches_by
  at_non_ascii n later e =
      let w = non_ascii_at x n e in
      rw (found (scanned.NonAscii n) e) (from_head n w.within later w.before (or_true (eqb (get_or x n 0) escape) w.there))
    where
      or_true : {b : Bool} (a : Bool) → b ≡ true → (a || b) ≡ true
      or_true true h = refl
      or_true false h = h

  -- a trigger in this chunk is known from then on
  now_escape : (n : ℕ) → scan_of x ≡ scanned.Escape n → triggered (front_of f x false) ≡ true
  unfolding esc_by
  now_escape n e = rw (found (scanned.Escape n) e)

  now_non_ascii : (n : ℕ) → scan_of x ≡ scanned.NonAscii n → triggered (front_of f x false) ≡ true
  unfolding esc_by reaches_by
  now_non_ascii n e =
      let least = at_least f.context saved x n (non_ascii_at x n e) in
      rw (found (scanned.NonAscii n) e) (seen f.esc_seen f.non_ascii_seen _ least)
    where
      seen : (e : Bool) (n k : ℕ) → 1 ≤ k → (e || ltb 0 (n + k)) ≡ true
      seen true n k h = refl
      seen false n k h = lt-ltb 0 (n + k) (omega arith)

  -- so it is one or the other
  some_at : (n : ℕ) → Something (reaches_at f.context x n)
  unfolding reaches_at
  some_at n = picked Something (ltb n 2) tt tt

  within_at : (n : ℕ) → Within (f.body + (length x - n)) (reaches_at f.context x n)
  unfolding reaches_at
  within_at n = rw q.no_body (picked (Within (0 + (length x - n))) (ltb n 2) (omega arith) (rw length-drop (omega arith)))

  pub chunk_way : Saves pre x f ⊎ Meets x f
  unfolding reaches_by body_by
  chunk_way = at (scan_of x) refl
    where
      at : (r : Scanned) → scan_of x ≡ r → Saves pre x f ⊎ Meets x f
      at (scanned.Escape n) e = let g = found (scanned.Escape n) e in inr (record { now = now_escape n e; reaches = rw g (some_at n); within = rw g (within_at n) })
      at (scanned.NonAscii n) e = let g = found (scanned.NonAscii n) e in inr (record { now = now_non_ascii n e; reaches = rw g (some_at n); within = rw g (within_at n) })
      at scanned.End e = inl (record { next = untriggered_next e; nothing = nothing_reaches e })

-- ---- the whole stream
pub fresh_untriggered : Untriggered [] fresh
unfolding last any
fresh_untriggered = record { triggerless = refl; context_is = refl; no_escape = refl; none_seen = refl; no_body = refl }

with_rest : (pre x : List ℕ) (xs : List (List ℕ)) (f : Front) → triggered (front_of f x false) ≡ true → FromHead (pre ++ (x ++ flatten xs)) (bytes_in (reaches_of f x) ++ flatten xs) → FromStream (pre ++ flatten (x ∷ xs)) (reached_by f (x ∷ xs))
unfolding reached_by flatten
with_rest pre x xs f e h = inr (rw (whole_chunks (front_of f x false) xs e) h)

-- one chunk, given what holds of the chunks after it as long as no trigger is met
chunk_reached : (pre x : List ℕ) (xs : List (List ℕ)) (f : Front) → Untriggered pre f → (Untriggered (pre ++ x) (front_of f x false) → FromStream ((pre ++ x) ++ flatten xs) (reached_by (front_of f x false) xs)) → (r : Scanned) → scan_of x ≡ r → FromStream (pre ++ flatten (x ∷ xs)) (reached_by f (x ∷ xs))
unfolding reached_by flatten
chunk_reached pre x xs f q more (scanned.Escape n) e = with_rest pre x xs f (now_escape pre x f q n e) (at_escape pre x f q n (flatten xs) e)
chunk_reached pre x xs f q more (scanned.NonAscii n) e = with_rest pre x xs f (now_non_ascii pre x f q n e) (at_non_ascii pre x f q n (flatten xs) e)
chunk_reached pre x xs f q more scanned.End e =
    let s : pre ++ (x ++ flatten xs) ≡ (pre ++ x) ++ flatten xs = sym (append_assoc pre x (flatten xs)) in
    let r : bytes_in (reaches_of f x) ++ reached_by (front_of f x false) xs ≡ reached_by (front_of f x false) xs = ap (λ (l : List ℕ). l ++ reached_by (front_of f x false) xs) (untriggered_none pre x f q e) in
    rw (s, r) (more (untriggered_next pre x f q e))

reached_from : (pre : List ℕ) (f : Front) (chunks : List (List ℕ)) → Untriggered pre f → FromStream (pre ++ flatten chunks) (reached_by f chunks)
unfolding reached_by flatten
reached_from pre f [] q = inl (ap (any is_trigger) (append-nil pre) ∙ q.triggerless, refl)
reached_from pre f (x ∷ xs) q = chunk_reached pre x xs f q (λ (n : Untriggered (pre ++ x) (front_of f x false)). reached_from (pre ++ x) (front_of f x false) xs n) (scan_of x) refl

-- Over a whole stream, however it is cut: nothing without a trigger; else at most the last three bytes of the head, always its
-- last two where it has them, then all that follows.
pub stream_reaches : (chunks : List (List ℕ)) → FromStream (flatten chunks) (reached_by fresh chunks)
stream_reaches chunks = reached_from [] fresh chunks fresh_untriggered

-- ---- the trigger
pub stays_met : (f : Front) (chunks : List (List ℕ)) → triggered f ≡ true → triggered (front_through f chunks) ≡ true
unfolding front_through
stays_met f [] e = e
stays_met f (x ∷ xs) e = stays_met (front_of f x false) xs (stays_triggered f x e)

begins_has : (rest : List ℕ) → Begins rest → any is_trigger rest ≡ true
unfolding any
begins_has [] e = absurd e
begins_has (b ∷ bs) e = rw e

has_one : (stream reached : List ℕ) → FromHead stream reached → any is_trigger stream ≡ true
has_one stream reached h = ap (any is_trigger) h.cut ∙ (any_append is_trigger h.head h.rest ∙ rw (h.triggerless, begins_has h.rest h.begins))

-- one chunk, given what holds of the chunks after it as long as no trigger is met
chunk_met : (pre x : List ℕ) (xs : List (List ℕ)) (f : Front) → Untriggered pre f → (Untriggered (pre ++ x) (front_of f x false) → triggered (front_through (front_of f x false) xs) ≡ any is_trigger ((pre ++ x) ++ flatten xs)) → (r : Scanned) → scan_of x ≡ r → triggered (front_through (front_of f x false) xs) ≡ any is_trigger (pre ++ (x ++ flatten xs))
chunk_met pre x xs f q more (scanned.Escape n) e = stays_met (front_of f x false) xs (now_escape pre x f q n e) ∙ sym (has_one _ _ (at_escape pre x f q n (flatten xs) e))
chunk_met pre x xs f q more (scanned.NonAscii n) e = stays_met (front_of f x false) xs (now_non_ascii pre x f q n e) ∙ sym (has_one _ _ (at_non_ascii pre x f q n (flatten xs) e))
chunk_met pre x xs f q more scanned.End e = more (untriggered_next pre x f q e) ∙ ap (any is_trigger) (append_assoc pre x (flatten xs))

pub met_from : (pre : List ℕ) (f : Front) (chunks : List (List ℕ)) → Untriggered pre f → triggered (front_through f chunks) ≡ any is_trigger (pre ++ flatten chunks)
unfolding front_through flatten
met_from pre f [] q = not_triggered pre f q ∙ sym (ap (any is_trigger) (append-nil pre) ∙ q.triggerless)
met_from pre f (x ∷ xs) q = chunk_met pre x xs f q (λ (n : Untriggered (pre ++ x) (front_of f x false)). met_from (pre ++ x) (front_of f x false) xs n) (scan_of x) refl

-- A trigger was met exactly if the stream has one.
pub stream_met : (chunks : List (List ℕ)) → triggered (front_through fresh chunks) ≡ any is_trigger (flatten chunks)
stream_met chunks = met_from [] fresh chunks fresh_untriggered

-- ---- the count
counts_so : (f : Front) (chunks : List (List ℕ)) → (front_through f chunks).non_ascii_seen ≡ f.non_ascii_seen + non_ascii_count (reached_by f chunks)
unfolding front_through reached_by count
counts_so f [] = sym (add-zero _)
counts_so f (x ∷ xs) = counts_so (front_of f x false) xs ∙ rw count_append (omega arith)

same_count : (stream reached : List ℕ) → FromStream stream reached → non_ascii_count reached ≡ non_ascii_count stream
unfolding count last
same_count stream reached (inl (p, e)) = ap non_ascii_count e ∙ sym (triggerless_count stream p)
same_count stream reached (inr h) =
    let p = triggerless_count (last h.kept h.head) (any_drop is_trigger (length h.head - h.kept) h.head h.triggerless) in
    ap non_ascii_count h.is ∙ (count_append non_ascii (last h.kept h.head) h.rest ∙ (rw (p, zero-add) (sym (ap non_ascii_count h.cut ∙ (count_append non_ascii h.head h.rest ∙ rw (triggerless_count h.head h.triggerless, zero-add))))))

-- The non-ASCII count is the number of bytes at or above 0x80 of the whole stream.
pub stream_counts : (chunks : List (List ℕ)) → (front_through fresh chunks).non_ascii_seen ≡ non_ascii_count (flatten chunks)
stream_counts chunks = counts_so fresh chunks ∙ (zero-add _ ∙ same_count (flatten chunks) (reached_by fresh chunks) (stream_reaches chunks))
