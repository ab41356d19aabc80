-- The caseless machine: what one byte does, a part of a chunk, and the close.
use Rattle.std.specs.Prelude.{Bool, true, List, ℕ}
use Rattle.laws.specs.Answer.{Ran}
use Rattle.laws.specs.Run.{Outcome, live}
use Rattle.octets.specs.Octets.{ascii}
use Rattle.single.specs.Class.{caseless_of, alphabetic, unless255}
use Rattle.laws.specs.Limit.{room}
use Rattle.single.specs.Answers.{close_by, ran_by, closed_by}
use Rattle.single.specs.Fit.{Common, common_b}
use Rattle.single.specs.Lent.{Lent}
use Rattle.single.specs.Pair.{gain_of}
use Rattle.single.specs.Words.{word_of, longest_of}
use Rattle.caseless_script.specs.declared.Caseless.{Caseless}

abbrev pub fresh : Caseless
fresh = record { prev = 0; prev_ascii = true; current_word_len = 0; longest_word = 0 }

module _ (t : Lent) where
  abbrev pub next_of : Caseless → ℕ → Caseless
  next_of m b =
      record {
        prev = caseless_of t b;
        prev_ascii = ascii b;
        current_word_len = word_of m.current_word_len (alphabetic t b);
        longest_word = longest_of m.current_word_len m.longest_word (alphabetic t b);
      }

  unfoldable pub step_of : Caseless → ℕ → Outcome Caseless
  step_of m b = unless255 t b (live (next_of m b) (gain_of t m.prev m.prev_ascii b))

abbrev pub close_of : Lent → Caseless → Outcome Caseless
close_of t m = close_by step_of t m

-- a record that no bound of n bytes excludes
abbrev pub Sound : ℕ → Caseless → Type 0
Sound n m = Common n m.prev m.current_word_len m.longest_word

abbrev pub sound_b : ℕ → Caseless → Bool
sound_b n m = common_b n m.prev m.current_word_len m.longest_word

-- ---- the answers
abbrev pub ran_of : Lent → Caseless → List ℕ → Ran Caseless
ran_of t m xs = ran_by step_of (sound_b room) t m xs

abbrev pub closed_of : Lent → Caseless → Ran Caseless
closed_of t m = closed_by step_of (sound_b room) t m
