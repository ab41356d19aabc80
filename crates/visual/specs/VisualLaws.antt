-- Laws of the machine of visual order, for its code and its callers.
use Rattle.std.specs.Prelude.{◌≡◌, true, List, ℕ, ◌+◌, ◌≤◌, ℤ, length}
use Rattle.std.proofs.Common.{arith, leb-true, le-leb}
use Rattle.laws.specs.Answer.{answered}
use Rattle.laws.specs.Limit.{room}
use Rattle.laws.specs.Run.{live, none, alive, run, last_at}
use Rattle.laws.specs.declared.Reason.{Reason}
use Rattle.laws.specs.declared.Reason.TheVariants.{Class255}
use Rattle.laws.specs.Tests.{both}
use Rattle.single.specs.AnswersLaws.{fit_ran, fit_closed}
use Rattle.single.specs.Class.{space, alphabetic}
use Rattle.single.specs.ClassLaws.{live_is, none_why}
use Rattle.single.specs.Fit.{Fit}
use Rattle.single.specs.FitLaws.{common_true, true_common, common_more, common_next, count_next}
use Rattle.single.specs.Lent.{Lent}
use Rattle.single.specs.Steps.{IsSound}
use Rattle.visual.specs.Visual.{plausible, next_of, step_of, close_of, Sound, sound_b, ran_of, closed_of}
use Rattle.visual.specs.declared.Visual.{Visual}

-- what the record can hold is kept, and no count grows by more than one
pub sound_next : (t : Lent) (m : Visual) (b k : ℕ) (n : Visual) (g : ℤ) → Sound k m → step_of t m b ≡ live n g → Sound (k + 1) n
unfolding step_of
sound_next t m b k n g o e =
    rw (live_is t b (next_of t m b) n _ g e)
    (record {
      punctuation_most = count_next (plausible t m b) m.plausible_punctuation k o.punctuation_most;
      common = common_next t k m.prev m.current_word_len m.longest_word b (alphabetic t b) o.common;
    })

pub sound_more : (k n : ℕ) (m : Visual) → k ≤ n → Sound k m → Sound n m
sound_more k n m h o =
    record { punctuation_most = omega (arith, o.punctuation_most); common = common_more k m.prev m.current_word_len m.longest_word n h o.common }

-- ---- the test decides, in both directions
pub sound_true : (n : ℕ) (m : Visual) → sound_b n m ≡ true → Sound n m
sound_true n m e =
    let a = both _ _ e in
    record { punctuation_most = leb-true _ _ a.0; common = common_true n _ _ _ a.1 }

pub true_sound : (n : ℕ) (m : Visual) → Sound n m → sound_b n m ≡ true
true_sound n m o = rw (le-leb _ _ o.punctuation_most) (true_common n _ _ _ o.common)

pub is_sound : IsSound step_of Sound sound_b
is_sound = record { next = sound_next; more = sound_more; tested = sound_true; holds = true_sound }

-- ---- why it drops out
pub step_reason : (t : Lent) (m : Visual) (b : ℕ) (d : Reason) → step_of t m b ≡ none d → d ≡ Class255
unfolding step_of
step_reason t m b d e = none_why t b (next_of t m b) _ e

pub close_reason : (t : Lent) (m : Visual) (d : Reason) → close_of t m ≡ none d → d ≡ Class255
close_reason t m d e = step_reason t m space d e

-- ---- what a caller that has tested uses
module _ (t : Lent) (m : Visual) where
  pub ran_fit : (xs : List ℕ) → Fit t (Sound room m) (length xs) → ran_of t m xs ≡ answered (last_at (step_of t) (alive m) xs) (run (step_of t) (alive m) xs)
  ran_fit xs o = fit_ran step_of (sound_b room) t m (true_sound room m) xs o

  pub closed_fit : Fit t (Sound room m) 0 → closed_of t m ≡ answered 0 (close_of t m)
  closed_fit o = fit_closed step_of (sound_b room) t m (true_sound room m) o
