-- The machine of visual order: what one byte does, a part of a chunk, and the close.
use Rattle.std.specs.Prelude.{Bool, true, false, not, ◌&&◌, List, ℕ, ◌≤◌, leb}
use Rattle.laws.specs.Answer.{Ran}
use Rattle.laws.specs.Run.{Outcome, live}
use Rattle.octets.specs.Octets.{ascii}
use Rattle.single.specs.Class.{caseless_of, alphabetic, unless255}
use Rattle.laws.specs.Limit.{room}
use Rattle.single.specs.Answers.{close_by, ran_by, closed_by}
use Rattle.single.specs.Fit.{Common, common_b}
use Rattle.single.specs.Lent.{Lent}
use Rattle.single.specs.Pair.{ascii_pair, gain_of}
use Rattle.single.specs.Punctuation.{punctuation_of, count_of}
use Rattle.single.specs.Words.{word_of, longest_of}
use Rattle.visual.specs.declared.Visual.{Visual}

abbrev pub fresh : Visual
fresh = record { prev = 0; prev_ascii = true; prev_punctuation = false; plausible_punctuation = 0; current_word_len = 0; longest_word = 0 }

-- an alphabetic class after ASCII punctuation of caseless class 0: where Hebrew in visual order has it
abbrev pub plausible_of : Bool → Bool → Bool
plausible_of prevPunctuation alphabetic = alphabetic && prevPunctuation

module _ (t : Lent) where
  -- unless both bytes are ASCII
  abbrev pub plausible : Visual → ℕ → Bool
  plausible m b = not (ascii_pair m.prev_ascii b) && plausible_of m.prev_punctuation (alphabetic t b)

  abbrev pub next_of : Visual → ℕ → Visual
  next_of m b =
      record {
        prev = caseless_of t b;
        prev_ascii = ascii b;
        prev_punctuation = punctuation_of (caseless_of t b) b;
        plausible_punctuation = count_of m.plausible_punctuation (plausible m b);
        current_word_len = word_of m.current_word_len (alphabetic t b);
        longest_word = longest_of m.current_word_len m.longest_word (alphabetic t b);
      }

  unfoldable pub step_of : Visual → ℕ → Outcome Visual
  step_of m b = unless255 t b (live (next_of m b) (gain_of t m.prev m.prev_ascii b))

abbrev pub close_of : Lent → Visual → Outcome Visual
close_of t m = close_by step_of t m

-- a record that no bound of n bytes excludes
pub record Sound (n : ℕ) (m : Visual) : Type 0 where
  pub punctuation_most : m.plausible_punctuation ≤ n
  pub common : Common n m.prev m.current_word_len m.longest_word

abbrev pub sound_b : ℕ → Visual → Bool
sound_b n m = leb m.plausible_punctuation n && common_b n m.prev m.current_word_len m.longest_word

-- ---- the answers
abbrev pub ran_of : Lent → Visual → List ℕ → Ran Visual
ran_of t m xs = ran_by step_of (sound_b room) t m xs

abbrev pub closed_of : Lent → Visual → Ran Visual
closed_of t m = closed_by step_of (sound_b room) t m
