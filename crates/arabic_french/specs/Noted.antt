-- The code's own step. It leaves the flag of its byte to be found from the byte itself, and the case of the letters as it was
-- where the byte is no Latin letter, since that is found from the class. No public contract cites it.
use Rattle.std.specs.Prelude.{◌≡◌, ◌≢◌, refl, Bool, true, false, cond, List, ℕ, ◌+◌, ◌≤◌, eqb, ℤ, pos, ◌+ℤ◌, nat_abs, get_or, Some}
use Rattle.std.proofs.Common.{ne_eqb}
use Rattle.std.proofs.Math.IntN.{+ℤ_idr}
use Rattle.laws.specs.Run.{none}
use Rattle.laws.specs.declared.Reason.TheVariants.{Class255}
use Rattle.octets.specs.Octets.{ascii}
use Rattle.weights.specs.Weights.{per_byte}
use Rattle.single.specs.Before.{ascii_before, not_first, one_back}
use Rattle.single.specs.Class.{class_of, caseless_of, latin_letter, alphabetic, alphabetic_of}
use Rattle.single.specs.Lent.{Lent}
use Rattle.single.specs.Pair.{ascii_pair, gain_by}
use Rattle.single.specs.Rest.{Rests, rest_start, rest_next}
use Rattle.single.specs.Steps.{Steps, Starts}
use Rattle.single.specs.Words.{word_of, longest_of}
use Rattle.arabic_french.specs.ArabicFrench.{case_of, case_gain_of, step_of}
use Rattle.arabic_french.specs.declared.ArabicFrench.{ArabicFrench}
use Rattle.arabic_french.specs.declared.LatinCaseState.{LatinCaseState}
use Rattle.arabic_french.specs.declared.LatinCaseState.TheVariants.{Space}

-- the case that counts after a byte of that class
abbrev pub held_case : ℕ → LatinCaseState → LatinCaseState
held_case prev state = cond (eqb prev latin_letter) state Space

abbrev pub case_before : ℕ → ArabicFrench → LatinCaseState
case_before i m = cond (eqb i 0) m.case_state (held_case m.prev m.case_state)

abbrev pub flagged : Bool → LatinCaseState → ArabicFrench → ArabicFrench
flagged isAscii state m =
    record {
      prev = m.prev;
      case_state = state;
      prev_ascii = isAscii;
      current_word_len = m.current_word_len;
      longest_word = m.longest_word;
    }

-- the record at byte i of a part
abbrev pub noted : List ℕ → ℕ → ArabicFrench → ArabicFrench
noted xs i m = flagged (ascii_before xs i m.prev_ascii) (case_before i m) m

abbrev pub bare : ℕ → LatinCaseState → ℕ → ℕ → ArabicFrench
bare prev state word longest =
    record {
      prev = prev;
      case_state = state;
      prev_ascii = false;
      current_word_len = word;
      longest_word = longest;
    }

-- what a byte of that class leaves, its flag left out, and by how much the score changes but for the case
abbrev pub left_by : ArabicFrench → LatinCaseState → ℕ → Bool → ArabicFrench
left_by m state current alphabetic =
    bare current state (word_of m.current_word_len alphabetic) (longest_of m.current_word_len m.longest_word alphabetic)

abbrev pub gain_from : List ℕ → List ℤ → List ℤ → ArabicFrench → ℕ → ℕ → ℤ
gain_from marks pairs weights m b current = gain_by marks pairs weights m.prev m.prev_ascii b current

-- the same of a Latin letter, whose case counts
abbrev pub latin_by : List ℕ → ArabicFrench → ℕ → ArabicFrench
latin_by marks m class = left_by m (case_of m.case_state class) latin_letter (alphabetic_of marks latin_letter)

abbrev pub latin_gain_by : List ℕ → List ℤ → List ℤ → ArabicFrench → ℕ → ℕ → ℤ
latin_gain_by marks pairs weights m b class =
    gain_from marks pairs weights m b latin_letter +ℤ case_gain_of weights (ascii_pair m.prev_ascii b) m.case_state class

-- where no word has begun, the class of the byte before is not alphabetic
abbrev pub RestsAt : Lent → ℕ → ArabicFrench → Type 0
RestsAt t i m = Rests t.marks i m.current_word_len m.prev

pub starts : Starts noted RestsAt
starts = record { same = λ xs m. refl; rests = λ t m. rest_start t.marks m.current_word_len m.prev }

-- what a step leaves is the record at the next byte
pub noted_next : (xs : List ℕ) (i : ℕ) (n : ArabicFrench) → noted xs (i + 1) n ≡ flagged (ascii (get_or xs i 0)) (held_case n.prev n.case_state) n
noted_next xs i n = rw (not_first i, one_back i)

no_case : (x : Bool) (g : ℤ) → g +ℤ cond x (pos 0) (pos 0) ≡ g
no_case true g = +ℤ_idr g
no_case false g = +ℤ_idr g

-- byte i of a part
module _ (t : Lent) (xs : List ℕ) (i : ℕ) (m : ArabicFrench) where
  pub step_drops : class_of t (get_or xs i 0) ≡ 255 → step_of t (noted xs i m) (get_or xs i 0) ≡ none Class255
  unfolding step_of
  step_drops e = rw e

  -- the case of the letters was left as it was, and does not count
  pub step_leaves : (a : Bool) → (class_of t (get_or xs i 0) ≢ 255) → (caseless_of t (get_or xs i 0) ≢ latin_letter) → alphabetic t (get_or xs i 0) ≡ a → (r : ArabicFrench × ℤ) → r.0 ≡ left_by m m.case_state (caseless_of t (get_or xs i 0)) a → r.1 ≡ gain_from t.marks t.pairs t.weights (noted xs i m) (get_or xs i 0) (caseless_of t (get_or xs i 0)) → nat_abs r.1 ≤ per_byte → Steps step_of noted RestsAt t xs i m (Some r)
  unfolding step_of
  step_leaves a f l e r p q h =
      rw
      (ne_eqb _ _ f, ne_eqb _ _ l, e, noted_next xs i r.0, p, q, ne_eqb _ _ l, no_case (ascii_pair (noted xs i m).prev_ascii (get_or xs i 0)) (gain_from t.marks t.pairs t.weights (noted xs i m) (get_or xs i 0) (caseless_of t (get_or xs i 0))))
      (refl, (rest_next t.marks (i + 1) m.current_word_len (caseless_of t (get_or xs i 0)) a e, rw q at h))

  pub latin_leaves : (class_of t (get_or xs i 0) ≢ 255) → caseless_of t (get_or xs i 0) ≡ latin_letter → (r : ArabicFrench × ℤ) → r.0 ≡ latin_by t.marks (noted xs i m) (class_of t (get_or xs i 0)) → r.1 ≡ latin_gain_by t.marks t.pairs t.weights (noted xs i m) (get_or xs i 0) (class_of t (get_or xs i 0)) → nat_abs r.1 ≤ per_byte → Steps step_of noted RestsAt t xs i m (Some r)
  unfolding step_of
  latin_leaves f l r p q h =
      rw
      (ne_eqb _ _ f, l, noted_next xs i r.0, p, q, l)
      (refl, (rest_next t.marks (i + 1) m.current_word_len latin_letter (alphabetic_of t.marks latin_letter) refl, rw (q, l) at h))
