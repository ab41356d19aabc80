-- The test of the lent lengths decides.
use Rattle.std.specs.Prelude.{◌≡◌, refl, true, ◌&&◌, List, [], ◌∷◌, ◌++◌, map, ℕ}
use Rattle.std.proofs.Math.Bool.{and-true, and_assoc}
use Rattle.std.proofs.Common.{eq-eqb, eqb-true}
use Rattle.laws.specs.Tests.{both}
use Rattle.tables.specs.Tables.{Rule, single_rules, rest_rules, rules, Single, Tables, single_lengths, rest_lengths, Sized, exact_b, sized_b}

abbrev entries_of : List Rule → List ℕ
entries_of rs = map (λ (r : Rule). r.entries) rs

exact_true : (ns : List ℕ) (rs : List Rule) → exact_b ns rs ≡ true → ns ≡ entries_of rs
unfolding exact_b
exact_true [] [] e = refl
exact_true [] (r ∷ rs) e = cc
exact_true (n ∷ ns) [] e = cc
exact_true (n ∷ ns) (r ∷ rs) e = let h = both _ _ e in rw (eqb-true n r.entries h.0, exact_true ns rs h.1)

true_exact : (rs : List Rule) → exact_b (entries_of rs) rs ≡ true
unfolding exact_b
true_exact [] = refl
true_exact (r ∷ rs) = rw (eq-eqb r.entries r.entries refl, true_exact rs)

pub sized_true : (t : Tables) → sized_b t ≡ true → Sized t
sized_true t e = record { exact = exact_true _ _ e }

pub true_sized : (t : Tables) → Sized t → sized_b t ≡ true
true_sized t s = rw s.exact (true_exact rules)

-- ---- one after the other
exact_single : (s : Single) (ns : List ℕ) (rs : List Rule) → exact_b (single_lengths s ++ ns) (single_rules ++ rs) ≡ (exact_b (single_lengths s) single_rules && exact_b ns rs)
unfolding exact_b
exact_single s ns rs = simp (and-true, and_assoc)

pub sized_each : (t : Tables) → sized_b t ≡ (exact_b (single_lengths t.caseless) single_rules && (exact_b (single_lengths t.logical) single_rules && (exact_b (single_lengths t.visual) single_rules && (exact_b (single_lengths t.arabic_french) single_rules && exact_b (rest_lengths t.big5 t.euckr t.jis t.extras t.weights) rest_rules))))
sized_each t = rw (exact_single t.caseless, exact_single t.logical, exact_single t.visual, exact_single t.arabic_french)
