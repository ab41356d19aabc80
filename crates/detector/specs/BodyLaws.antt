-- Over a whole stream, however it is cut, the front's body is the number of bytes from the end of the head on.
use Rattle.std.specs.Prelude.{◌≡◌, refl, Bool, true, false, cond, ◌||◌, ◌⊎◌, ℕ, ◌+◌, ◌-◌, eqb, length, drop}
use Rattle.std.proofs.Common.{sym, ap, ◌∙◌, inl, inr, add-zero, arith, length-drop, length-append}
use mathlib.Core.List.{List, [], ◌∷◌, ◌++◌, append-nil, append_assoc, flatten}
use Rattle.laws.specs.Lists.{any, any_append}
use Rattle.laws.specs.Tests.{neither, picked}
use Rattle.context.specs.Head.{escape, is_trigger, head_of, scanned_at, scan_of}
use Rattle.context.specs.declared.Scanned.{Scanned}
use Rattle.state.specs.State.{fresh, triggered}
use Rattle.state.specs.declared.front.Front.{Front}
use Rattle.detector.specs.Front.{found_as, trigger_of, body_by, front_of}
use Rattle.detector.specs.Stream.{front_through, rest_of}
use Rattle.detector.specs.StreamLaws.{whole_body, stays_triggered, Untriggered, Saves, Meets, not_triggered, chunk_way, fresh_untriggered, met_from}

-- ---- the rest of joined bytes
rest_past : (hs xs : List ℕ) → any is_trigger hs ≡ false → rest_of (hs ++ xs) ≡ rest_of xs
unfolding head_of any
rest_past [] xs e = refl
rest_past (h ∷ hs) xs e = let n = neither (is_trigger h) (any is_trigger hs) e in rw n.0 (rest_past hs xs n.1)

-- one byte more, which is the trigger or not
rest_at : (x : ℕ) (xs ys : List ℕ) (t : Bool) → (any is_trigger xs ≡ true → rest_of (xs ++ ys) ≡ rest_of xs ++ ys) → (t || any is_trigger xs) ≡ true → drop (length (cond t [] (x ∷ head_of (xs ++ ys)))) (x ∷ (xs ++ ys)) ≡ drop (length (cond t [] (x ∷ head_of xs))) (x ∷ xs) ++ ys
rest_at x xs ys true more e = refl
rest_at x xs ys false more e = more e

rest_more : (xs ys : List ℕ) → any is_trigger xs ≡ true → rest_of (xs ++ ys) ≡ rest_of xs ++ ys
unfolding head_of any
rest_more [] ys e = cc
rest_more (x ∷ xs) ys e = rest_at x xs ys (is_trigger x) (rest_more xs ys) e

pub rest_none : (xs : List ℕ) → any is_trigger xs ≡ false → rest_of xs ≡ []
unfolding head_of
rest_none xs e = ap rest_of (sym (append-nil xs)) ∙ rest_past xs [] e

-- ---- a chunk before which none was met
found_body : (xs : List ℕ) → body_by 0 xs (found_as (scan_of xs)) ≡ length (rest_of xs)
unfolding scan_of body_by
found_body xs = at (rest_of xs) refl
  where
    at : (ys : List ℕ) → rest_of xs ≡ ys → body_by 0 xs (found_as (scanned_at (length (head_of xs)) ys)) ≡ length ys
    at [] e = refl
    at (b ∷ bs) e =
        let n = length (head_of xs) in
        let h : 0 + (length xs - length (head_of xs)) ≡ length (b ∷ bs) = omega (arith, sym (length-drop n xs) ∙ ap length e) in
        picked (λ (r : Scanned). body_by 0 xs (found_as r) ≡ length (b ∷ bs)) (eqb b escape) h h

-- ---- the chunks after it, whole
met_body : (f : Front) (chunks : List (List ℕ)) → triggered f ≡ true → (front_through f chunks).body ≡ f.body + length (flatten chunks)
unfolding front_through flatten
met_body f [] e = sym (add-zero f.body)
met_body f (x ∷ xs) e = met_body (front_of f x false) xs (stays_triggered f x e) ∙ rw (whole_body f x e, length-append) (omega arith)

-- ---- all chunks
module _ (pre x : List ℕ) (f : Front) (q : Untriggered pre f) where
  -- the one that has the trigger
  first_body : (front_of f x false).body ≡ length (rest_of x)
  unfolding trigger_of
  first_body = rw (not_triggered pre f q, q.no_body) (found_body x)

  has_trigger : Meets x f → any is_trigger x ≡ true
  unfolding front_through flatten
  has_trigger m = rw (any_append, q.triggerless, append-nil) at (sym (met_from pre f (x ∷ []) q) ∙ m.now)

  then_body : (later : List ℕ) → Meets x f → (front_of f x false).body + length later ≡ length (rest_of (pre ++ (x ++ later)))
  then_body later m =
      rw (first_body, rest_past pre (x ++ later) q.triggerless, rest_more x later (has_trigger m), length-append)

  -- one chunk, given what holds of the chunks after it as long as no trigger is met
  chunk_body : (xs : List (List ℕ)) → (Untriggered (pre ++ x) (front_of f x false) → (front_through (front_of f x false) xs).body ≡ length (rest_of ((pre ++ x) ++ flatten xs))) → Saves pre x f ⊎ Meets x f → (front_through (front_of f x false) xs).body ≡ length (rest_of (pre ++ (x ++ flatten xs)))
  chunk_body xs more (inl s) = more s.next ∙ ap (λ (l : List ℕ). length (rest_of l)) (append_assoc pre x (flatten xs))
  chunk_body xs more (inr m) = met_body (front_of f x false) xs m.now ∙ then_body (flatten xs) m

body_from : (pre : List ℕ) (f : Front) (chunks : List (List ℕ)) → Untriggered pre f → (front_through f chunks).body ≡ length (rest_of (pre ++ flatten chunks))
unfolding front_through flatten head_of
body_from pre f [] q = q.no_body ∙ sym (ap length (rest_past pre [] q.triggerless))
body_from pre f (x ∷ xs) q = chunk_body pre x f q xs (λ (n : Untriggered (pre ++ x) (front_of f x false)). body_from (pre ++ x) (front_of f x false) xs n) (chunk_way pre x f q)

-- The front's body is the number of bytes from the end of the head on; without a trigger there is none (rest-none).
pub stream_body : (chunks : List (List ℕ)) → (front_through fresh chunks).body ≡ length (rest_of (flatten chunks))
stream_body chunks = body_from [] fresh chunks fresh_untriggered
