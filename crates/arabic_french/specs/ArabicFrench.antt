-- The Arabic-French machine: what one byte does, a part of a chunk, and the close.
use Rattle.std.specs.Prelude.{Bool, true, false, cond, not, ◌&&◌, List, ℕ, ◌%◌, eqb, ℤ, pos, ◌+ℤ◌}
use Rattle.laws.specs.Answer.{Ran}
use Rattle.laws.specs.Run.{Outcome, live}
use Rattle.octets.specs.Octets.{ascii}
use Rattle.weights.specs.Weights.{weight_of, case}
use Rattle.single.specs.Class.{class_of, caseless_of, is_capital, latin_letter, alphabetic, unless255}
use Rattle.laws.specs.Limit.{room}
use Rattle.single.specs.Answers.{close_by, ran_by, closed_by}
use Rattle.single.specs.Fit.{Common, common_b}
use Rattle.single.specs.Lent.{Lent}
use Rattle.single.specs.Pair.{ascii_pair, gain_of}
use Rattle.single.specs.Words.{word_of, longest_of}
use Rattle.arabic_french.specs.declared.ArabicFrench.{ArabicFrench}
use Rattle.arabic_french.specs.declared.LatinCaseState.{LatinCaseState}
use Rattle.arabic_french.specs.declared.LatinCaseState.TheVariants.{Space, Upper, Lower, AllCaps}

abbrev pub fresh : ArabicFrench
fresh = record { prev = 0; case_state = Space; prev_ascii = true; current_word_len = 0; longest_word = 0 }

-- the case of the French letters so far; any other class, Arabic too, counts as a space between words
abbrev pub capital_after : LatinCaseState → LatinCaseState
capital_after Space = Upper
capital_after Upper = AllCaps
capital_after Lower = Upper
capital_after AllCaps = AllCaps

abbrev pub case_of : LatinCaseState → ℕ → LatinCaseState
case_of state class = cond (eqb (class % 128) latin_letter) (cond (is_capital class) (capital_after state) Lower) Space

-- lower after AllCaps, or capital after Lower
abbrev pub clash_at : LatinCaseState → Bool → Bool
clash_at Space capital = false
clash_at Upper capital = false
clash_at Lower capital = capital
clash_at AllCaps capital = not capital

abbrev pub clash_of : LatinCaseState → ℕ → Bool
clash_of state class = eqb (class % 128) latin_letter && clash_at state (is_capital class)

-- the case weight for such a letter, unless both bytes are ASCII
abbrev pub case_gain_of : List ℤ → Bool → LatinCaseState → ℕ → ℤ
case_gain_of weights both state class = cond both (pos 0) (cond (clash_of state class) (weight_of weights case) (pos 0))

module _ (t : Lent) where
  abbrev pub next_of : ArabicFrench → ℕ → ArabicFrench
  next_of m b =
      record {
        prev = caseless_of t b;
        case_state = case_of m.case_state (class_of t b);
        prev_ascii = ascii b;
        current_word_len = word_of m.current_word_len (alphabetic t b);
        longest_word = longest_of m.current_word_len m.longest_word (alphabetic t b);
      }

  unfoldable pub step_of : ArabicFrench → ℕ → Outcome ArabicFrench
  step_of m b = unless255 t b (live (next_of m b) (gain_of t m.prev m.prev_ascii b +ℤ case_gain_of t.weights (ascii_pair m.prev_ascii b) m.case_state (class_of t b)))

abbrev pub close_of : Lent → ArabicFrench → Outcome ArabicFrench
close_of t m = close_by step_of t m

-- a record that no bound of n bytes excludes
abbrev pub Sound : ℕ → ArabicFrench → Type 0
Sound n m = Common n m.prev m.current_word_len m.longest_word

abbrev pub sound_b : ℕ → ArabicFrench → Bool
sound_b n m = common_b n m.prev m.current_word_len m.longest_word

-- ---- the answers
abbrev pub ran_of : Lent → ArabicFrench → List ℕ → Ran ArabicFrench
ran_of t m xs = ran_by step_of (sound_b room) t m xs

abbrev pub closed_of : Lent → ArabicFrench → Ran ArabicFrench
closed_of t m = closed_by step_of (sound_b room) t m
