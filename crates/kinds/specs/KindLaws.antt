-- A machine stays of its kind.
use Rattle.std.specs.Prelude.{◌≡◌, refl, Bool, false, List, ℕ, ℤ}
use Rattle.std.proofs.Common.{sym, ap, ◌∙◌}
use Rattle.laws.specs.Carried.{carried, Holds, run_holds}
use Rattle.laws.specs.Run.{Outcome, none, live, run}
use Rattle.kinds.specs.Kinds.{place_number, fresh_of, step_of, close_of}
use Rattle.kinds.specs.Sound.{takes_space, reach_of}
use Rattle.tables.specs.Own.{Own}
use Rattle.kinds.specs.declared.machine.Machine.{Machine}
use Rattle.kinds.specs.declared.machine.Machine.TheVariants.{Utf8, Iso2022Jp, EucKr, Big5, Caseless, Logical, Visual, ArabicFrench, ShiftJis}

-- the same fresh machine, and so the same kind
abbrev pub Alike : Machine → Machine → Type 0
Alike m k = fresh_of k ≡ fresh_of m

place_fresh : (m : Machine) → place_number (fresh_of m) ≡ place_number m
unfolding fresh_of
place_fresh (Utf8 m) = refl
place_fresh (Iso2022Jp m) = refl
place_fresh (EucKr m) = refl
place_fresh (Big5 m) = refl
place_fresh (Caseless m) = refl
place_fresh (Logical m) = refl
place_fresh (Visual m) = refl
place_fresh (ArabicFrench m) = refl
place_fresh (ShiftJis m) = refl

pub fresh_alike : (m : Machine) → Alike m (fresh_of m)
unfolding fresh_of
fresh_alike (Utf8 m) = refl
fresh_alike (Iso2022Jp m) = refl
fresh_alike (EucKr m) = refl
fresh_alike (Big5 m) = refl
fresh_alike (Caseless m) = refl
fresh_alike (Logical m) = refl
fresh_alike (Visual m) = refl
fresh_alike (ArabicFrench m) = refl
fresh_alike (ShiftJis m) = refl

pub alike_place : (m k : Machine) → Alike m k → place_number k ≡ place_number m
alike_place m k e = sym (place_fresh k) ∙ (ap place_number e ∙ place_fresh m)

space_fresh : (m : Machine) → takes_space (fresh_of m) ≡ takes_space m
unfolding fresh_of
space_fresh (Utf8 m) = refl
space_fresh (Iso2022Jp m) = refl
space_fresh (EucKr m) = refl
space_fresh (Big5 m) = refl
space_fresh (Caseless m) = refl
space_fresh (Logical m) = refl
space_fresh (Visual m) = refl
space_fresh (ArabicFrench m) = refl
space_fresh (ShiftJis m) = refl

pub alike_reach : (m k : Machine) (n : ℕ) (closed : Bool) → Alike m k → reach_of k n closed ≡ reach_of m n closed
unfolding reach_of
alike_reach m k n closed e = rw (sym (space_fresh k) ∙ (ap takes_space e ∙ space_fresh m))

pub reach_open : (m : Machine) (n : ℕ) → reach_of m n false ≡ n
unfolding reach_of
reach_open m n = refl

-- ---- an outcome that is carried under a kind
carried_alike : {S : Type 0} (wrap : S → Machine) (m : Machine) → ((x : S) → Alike m (wrap x)) → (o : Outcome S) → Holds (Alike m) (carried wrap o)
unfolding carried
carried_alike wrap m f (none d) = tt
carried_alike wrap m f (live x s) = f x

module _ (t : Own) where
  step_alike : (m : Machine) (b : ℕ) → Holds (Alike m) (step_of t m b)
  unfolding step_of fresh_of
  step_alike (Utf8 m) b = carried_alike Utf8 (Utf8 m) (λ x. refl) _
  step_alike (Iso2022Jp m) b = carried_alike Iso2022Jp (Iso2022Jp m) (λ x. refl) _
  step_alike (EucKr m) b = carried_alike EucKr (EucKr m) (λ x. refl) _
  step_alike (Big5 m) b = carried_alike Big5 (Big5 m) (λ x. refl) _
  step_alike (Caseless m) b = carried_alike Caseless (Caseless m) (λ x. refl) _
  step_alike (Logical m) b = carried_alike Logical (Logical m) (λ x. refl) _
  step_alike (Visual m) b = carried_alike Visual (Visual m) (λ x. refl) _
  step_alike (ArabicFrench m) b = carried_alike ArabicFrench (ArabicFrench m) (λ x. refl) _
  step_alike (ShiftJis m) b = carried_alike ShiftJis (ShiftJis m) (λ x. refl) _

  holds_alike : (m k : Machine) → Alike m k → (o : Outcome Machine) → Holds (Alike k) o → Holds (Alike m) o
  holds_alike m k e (none d) h = tt
  holds_alike m k e (live x s) h = h ∙ e

  pub step_stays : (m k : Machine) (b : ℕ) → Alike m k → Holds (Alike m) (step_of t k b)
  step_stays m k b e = holds_alike m k e (step_of t k b) (step_alike k b)

  pub run_alike : (m : Machine) (s : ℤ) (xs : List ℕ) → Holds (Alike m) (run (step_of t) (live m s) xs)
  run_alike m s xs = run_holds (step_of t) (λ (n : ℕ). Alike m) (λ (n : ℕ) (k : Machine) (b : ℕ) (e : Alike m k). step_stays m k b e) 0 (live m s) xs refl

  pub close_alike : (m : Machine) → Holds (Alike m) (close_of t m)
  unfolding close_of fresh_of
  close_alike (Utf8 m) = carried_alike Utf8 (Utf8 m) (λ x. refl) _
  close_alike (Iso2022Jp m) = carried_alike Iso2022Jp (Iso2022Jp m) (λ x. refl) _
  close_alike (EucKr m) = carried_alike EucKr (EucKr m) (λ x. refl) _
  close_alike (Big5 m) = carried_alike Big5 (Big5 m) (λ x. refl) _
  close_alike (Caseless m) = carried_alike Caseless (Caseless m) (λ x. refl) _
  close_alike (Logical m) = carried_alike Logical (Logical m) (λ x. refl) _
  close_alike (Visual m) = carried_alike Visual (Visual m) (λ x. refl) _
  close_alike (ArabicFrench m) = carried_alike ArabicFrench (ArabicFrench m) (λ x. refl) _
  close_alike (ShiftJis m) = carried_alike ShiftJis (ShiftJis m) (λ x. refl) _
