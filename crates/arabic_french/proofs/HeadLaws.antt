-- What the Arabic-French machine forgets: it remembers two bytes, for the case of the letters before.
use Rattle.std.specs.Prelude.{◌≡◌, refl, Bool, true, false, cond, ℕ, ◌%◌, eqb}
use Rattle.std.proofs.Common.{sym, ◌∙◌}
use Rattle.std.proofs.Math.Path.{ap}
use Rattle.laws.specs.Memory.{Forgets, Quiet}
use Rattle.laws.proofs.Forgets.{forgets}
use Rattle.single.specs.Class.{class_of, caseless_of, latin_letter, is_capital}
use Rattle.single.specs.HeadLaws.{quiet_at, is_ascii, not_255, no_letter}
use Rattle.single.specs.Lent.{Lent}
use Rattle.arabic_french.specs.ArabicFrench.{fresh, capital_after, case_of, step_of}
use Rattle.arabic_french.specs.declared.ArabicFrench.{ArabicFrench}
use Rattle.arabic_french.specs.declared.LatinCaseState.{LatinCaseState}
use Rattle.arabic_french.specs.declared.LatinCaseState.TheVariants.{Space, Upper, Lower, AllCaps}

-- of quiet bytes the record holds the last one's class, and the case of the letters so far
abbrev pub holding : ℕ × LatinCaseState → ArabicFrench
holding k = record { prev = k.0; case_state = k.1; prev_ascii = true; current_word_len = 0; longest_word = 0 }

two_capitals : (r s : LatinCaseState) → capital_after (capital_after r) ≡ capital_after (capital_after s)
two_capitals r s = all_caps r ∙ sym (all_caps s)
  where
    all_caps : (s : LatinCaseState) → capital_after (capital_after s) ≡ AllCaps
    all_caps Space = refl
    all_caps Upper = refl
    all_caps Lower = refl
    all_caps AllCaps = refl

-- by what the two bytes are: x a Latin letter, y its capital; u and v the same of the second
case_forgets : (x y u v : Bool) (r s : LatinCaseState) → cond u (cond v (capital_after (cond x (cond y (capital_after r) Lower) Space)) Lower) Space ≡ cond u (cond v (capital_after (cond x (cond y (capital_after s) Lower) Space)) Lower) Space
case_forgets x y false v r s = refl
case_forgets x y true false r s = refl
case_forgets false y true true r s = refl
case_forgets true false true true r s = refl
case_forgets true true true true r s = two_capitals r s

module _ (t : Lent) where
  case_same : (r s : LatinCaseState) (a b : ℕ) → case_of (case_of r (class_of t a)) (class_of t b) ≡ case_of (case_of s (class_of t a)) (class_of t b)
  case_same r s a b = case_forgets (eqb (class_of t a % 128) latin_letter) (is_capital (class_of t a)) (eqb (class_of t b % 128) latin_letter) (is_capital (class_of t b)) r s

  pub arabic_french_quiet : Quiet (quiet_at t) (step_of t) holding (λ k b. (caseless_of t b, case_of k.1 (class_of t b)))
  unfolding step_of
  arabic_french_quiet =
      record {
        steps = λ k b q. rw (is_ascii t b q, not_255 t b q, no_letter t b q);
        forgotten = λ k l a b. ap (λ (c : LatinCaseState). (caseless_of t b, c)) (case_same k.1 l.1 a b);
      }

  pub arabic_french_forgets : Forgets (quiet_at t) (step_of t) fresh
  arabic_french_forgets = forgets arabic_french_quiet (0, Space)
