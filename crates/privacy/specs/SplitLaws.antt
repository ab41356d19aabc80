-- The head is a function of the stream, however it was cut; and what is counted, and whether there is a trigger, lies in the rest.
use Rattle.std.specs.Prelude.{◌≡◌, false, List, [], ◌∷◌, ◌++◌, ℕ, length, drop}
use Rattle.std.proofs.Common.{sym, ap, ◌∙◌, zero-add, take-append-drop}
use Rattle.std.proofs.Math.Seq.{drop-append_seam}
use Rattle.laws.specs.Lists.{any, any_append, count_append}
use Rattle.laws.specs.Tests.{neither}
use Rattle.octets.specs.Octets.{non_ascii}
use Rattle.context.specs.Head.{is_trigger, head_of, non_ascii_count}
use Rattle.context.specs.HeadLaws.{head_triggerless, head_take}
use Rattle.detector.specs.FrontLaws.{triggerless_count}
use Rattle.detector.specs.Stream.{rest_of, Begins, FromHead}

-- ---- the only split into bytes without a trigger and what begins with one
head_is : (head rest : List ℕ) → any is_trigger head ≡ false → Begins rest → head_of (head ++ rest) ≡ head
unfolding head_of any
head_is [] [] p b = absurd b
head_is [] (x ∷ xs) p b = rw b
head_is (h ∷ hs) rest p b = let n = neither (is_trigger h) (any is_trigger hs) p in rw (n.0, head_is hs rest n.1 b)

module _ (stream reached : List ℕ) (h : FromHead stream reached) where
  pub head_of_lem : h.head ≡ head_of stream
  head_of_lem = sym (ap head_of h.cut ∙ head_is h.head h.rest h.triggerless h.begins)

  pub rest_of_lem : h.rest ≡ rest_of stream
  rest_of_lem = sym (ap (λ (l : List ℕ). drop (length l) stream) (sym head_of_lem) ∙ (ap (drop (length h.head)) h.cut ∙ drop-append_seam h.head h.rest))

-- ---- in the rest
module _ (xs : List ℕ) where
  pub split_joins : head_of xs ++ rest_of xs ≡ xs
  split_joins = ap (λ (l : List ℕ). l ++ rest_of xs) (sym (head_take xs)) ∙ take-append-drop (length (head_of xs)) xs

  pub trigger_in_rest : any is_trigger xs ≡ any is_trigger (rest_of xs)
  trigger_in_rest = ap (any is_trigger) (sym split_joins) ∙ (any_append is_trigger (head_of xs) (rest_of xs) ∙ rw (head_triggerless xs))

  pub count_in_rest : non_ascii_count xs ≡ non_ascii_count (rest_of xs)
  count_in_rest = ap non_ascii_count (sym split_joins) ∙ (count_append non_ascii (head_of xs) (rest_of xs) ∙ rw (triggerless_count (head_of xs) (head_triggerless xs), zero-add))
