-- What the machine of logical order forgets.
use Rattle.std.proofs.Math.Path.{refl}
use Rattle.std.specs.Prelude.{true, ℕ}
use Rattle.laws.specs.Memory.{Forgets, Quiet}
use Rattle.laws.proofs.Forgets.{forgets}
use Rattle.single.specs.Class.{caseless_of}
use Rattle.single.specs.HeadLaws.{quiet_at, is_ascii, not_255, no_letter}
use Rattle.single.specs.Lent.{Lent}
use Rattle.logical.specs.Logical.{fresh, step_of}
use Rattle.logical.specs.declared.Logical.{Logical}

-- of quiet bytes the record holds the last one's class
abbrev pub holding : ℕ → Logical
holding class = record { prev = class; prev_ascii = true; plausible_punctuation = 0; current_word_len = 0; longest_word = 0 }

module _ (t : Lent) where
  pub logical_quiet : Quiet (quiet_at t) (step_of t) holding (λ k b. caseless_of t b)
  unfolding step_of
  logical_quiet = record { steps = λ k b q. rw (is_ascii t b q, not_255 t b q, no_letter t b q); forgotten = λ k l a b. refl }

  pub logical_forgets : Forgets (quiet_at t) (step_of t) fresh
  logical_forgets = forgets logical_quiet 0
