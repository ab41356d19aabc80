-- The machine of logical order: what one byte does, a part of a chunk, and the close.
use Rattle.std.specs.Prelude.{Bool, true, not, ◌&&◌, List, ℕ, ◌≤◌, leb}
use Rattle.laws.specs.Answer.{Ran}
use Rattle.laws.specs.Run.{Outcome, live}
use Rattle.octets.specs.Octets.{ascii}
use Rattle.single.specs.Class.{caseless_of, alphabetic, alphabetic_of, unless255}
use Rattle.laws.specs.Limit.{room}
use Rattle.single.specs.Answers.{close_by, ran_by, closed_by}
use Rattle.single.specs.Fit.{Common, common_b}
use Rattle.single.specs.Lent.{Lent}
use Rattle.single.specs.Pair.{ascii_pair, gain_of}
use Rattle.single.specs.Punctuation.{punctuation_of, count_of}
use Rattle.single.specs.Words.{word_of, longest_of}
use Rattle.logical.specs.declared.Logical.{Logical}

abbrev pub fresh : Logical
fresh = record { prev = 0; prev_ascii = true; plausible_punctuation = 0; current_word_len = 0; longest_word = 0 }

-- ASCII punctuation of caseless class 0 after an alphabetic class: where Hebrew in logical order has it
abbrev pub plausible_of : List ℕ → ℕ → ℕ → ℕ → Bool
plausible_of marks previous current b = punctuation_of current b && alphabetic_of marks previous

module _ (t : Lent) where
  -- unless both bytes are ASCII
  abbrev pub plausible : Logical → ℕ → Bool
  plausible m b = not (ascii_pair m.prev_ascii b) && plausible_of t.marks m.prev (caseless_of t b) b

  abbrev pub next_of : Logical → ℕ → Logical
  next_of m b =
      record {
        prev = caseless_of t b;
        prev_ascii = ascii b;
        plausible_punctuation = count_of m.plausible_punctuation (plausible m b);
        current_word_len = word_of m.current_word_len (alphabetic t b);
        longest_word = longest_of m.current_word_len m.longest_word (alphabetic t b);
      }

  unfoldable pub step_of : Logical → ℕ → Outcome Logical
  step_of m b = unless255 t b (live (next_of m b) (gain_of t m.prev m.prev_ascii b))

abbrev pub close_of : Lent → Logical → Outcome Logical
close_of t m = close_by step_of t m

-- a record that no bound of n bytes excludes
pub record Sound (n : ℕ) (m : Logical) : Type 0 where
  pub punctuation_most : m.plausible_punctuation ≤ n
  pub common : Common n m.prev m.current_word_len m.longest_word

abbrev pub sound_b : ℕ → Logical → Bool
sound_b n m = leb m.plausible_punctuation n && common_b n m.prev m.current_word_len m.longest_word

-- ---- the answers
abbrev pub ran_of : Lent → Logical → List ℕ → Ran Logical
ran_of t m xs = ran_by step_of (sound_b room) t m xs

abbrev pub closed_of : Lent → Logical → Ran Logical
closed_of t m = closed_by step_of (sound_b room) t m
