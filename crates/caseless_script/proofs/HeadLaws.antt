-- What the caseless machine forgets.
use Rattle.std.proofs.Math.Path.{refl}
use Rattle.std.specs.Prelude.{true, ℕ}
use Rattle.laws.specs.Memory.{Forgets, Quiet}
use Rattle.laws.proofs.Forgets.{forgets}
use Rattle.single.specs.Class.{caseless_of}
use Rattle.single.specs.HeadLaws.{quiet_at, is_ascii, not_255, no_letter}
use Rattle.single.specs.Lent.{Lent}
use Rattle.caseless_script.specs.Caseless.{fresh, step_of}
use Rattle.caseless_script.specs.declared.Caseless.{Caseless}

-- of quiet bytes the record holds the last one's class
abbrev pub holding : ℕ → Caseless
holding class = record { prev = class; prev_ascii = true; current_word_len = 0; longest_word = 0 }

module _ (t : Lent) where
  pub caseless_quiet : Quiet (quiet_at t) (step_of t) holding (λ k b. caseless_of t b)
  unfolding step_of
  caseless_quiet = record { steps = λ k b q. rw (is_ascii t b q, not_255 t b q, no_letter t b q); forgotten = λ k l a b. refl }

  pub caseless_forgets : Forgets (quiet_at t) (step_of t) fresh
  caseless_forgets = forgets caseless_quiet 0
