-- What the machine of visual order forgets.
use Rattle.std.proofs.Math.Path.{refl}
use Rattle.std.specs.Prelude.{Bool, true, false, ℕ}
use Rattle.laws.specs.Memory.{Forgets, Quiet}
use Rattle.laws.proofs.Forgets.{forgets}
use Rattle.single.specs.Class.{caseless_of}
use Rattle.single.specs.HeadLaws.{quiet_at, is_ascii, not_255, no_letter}
use Rattle.single.specs.Lent.{Lent}
use Rattle.single.specs.Punctuation.{punctuation_of}
use Rattle.visual.specs.Visual.{fresh, step_of}
use Rattle.visual.specs.declared.Visual.{Visual}

-- of quiet bytes the record holds the last one's class, and whether it is punctuation of class 0
abbrev pub holding : ℕ × Bool → Visual
holding k = record { prev = k.0; prev_ascii = true; prev_punctuation = k.1; plausible_punctuation = 0; current_word_len = 0; longest_word = 0 }

module _ (t : Lent) where
  pub visual_quiet : Quiet (quiet_at t) (step_of t) holding (λ k b. (caseless_of t b, punctuation_of (caseless_of t b) b))
  unfolding step_of
  visual_quiet = record { steps = λ k b q. rw (is_ascii t b q, not_255 t b q, no_letter t b q); forgotten = λ k l a b. refl }

  pub visual_forgets : Forgets (quiet_at t) (step_of t) fresh
  visual_forgets = forgets visual_quiet (0, false)
