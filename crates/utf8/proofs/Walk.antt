-- The grid as a reader of the handbook uses it: from state 1, byte by byte, to the state that stands in the grid. Whoever ends in
-- state 1 has read whole well-formed sequences, and only they end there.
use Rattle.std.specs.Prelude.{◌≡◌, Bool, true, false, cond, ℕ, ◌+◌, ◌*◌, ◌<◌, ◌≤◌, eqb, pos, get_or}
use Rattle.std.proofs.Math.Path.{refl, sym, ap}
use Rattle.std.proofs.Common.{◌∙◌, arith, eqb-true}
use mathlib.Core.List.{List, [], ◌∷◌}
use Rattle.std.proofs.lemmas.Bool.{eqb-false}
use Rattle.laws.specs.declared.Reason.TheVariants.{BadByte}
use Rattle.laws.specs.Run.{Outcome, none, alive, run, ended, plus}
use Rattle.utf8.specs.declared.Utf8.{Utf8}
use Rattle.utf8.specs.Utf8.{fresh, next_in, step_of, close_of}
use Rattle.utf8.specs.WellFormed.{Text}
use Rattle.utf8.proofs.WellFormedLaws.{text_lives, closes_text}
use Rattle.utf8.specs.Grid.{bad, last, record_at, outcome_at, state_of, state_after, IsGrid}
use Rattle.utf8.specs.GridLaws.{numbered, entry_most, not_bad, leads}

unfoldable pub walk_of : List ℕ → ℕ → List ℕ → ℕ
walk_of grid s [] = s
walk_of grid s (b ∷ bs) = walk_of grid (get_or grid (256 * s + b) 0) bs

-- bytes, each of them
abbrev pub Bytes : List ℕ → Type 0
Bytes [] = Unit {0}
Bytes (b ∷ bs) = (b < 256) × Bytes bs

-- a state is the one that stands for what it stands for
state_stands : (s : ℕ) → s ≤ last → state_after (outcome_at s) ≡ s
unfolding state_after outcome_at
state_stands s h = stands_at (eqb s bad) refl
  where
    stands_at : (t : Bool) → eqb s bad ≡ t → state_after (cond t (none BadByte) (alive (record_at s))) ≡ s
    stands_at true e = sym (eqb-true s bad e)
    stands_at false e = (numbered s (not_bad s (eqb-false s bad e), h)).1

module _ (grid : List ℕ) (is : IsGrid grid) where
  walk_most : (s : ℕ) (xs : List ℕ) → s ≤ last → Bytes xs → walk_of grid s xs ≤ last
  unfolding walk_of
  walk_most s [] h p = h
  walk_most s (b ∷ bs) h p = walk_most (get_or grid (256 * s + b) 0) bs (rw (is.entries s b h p.0) (entry_most s b)) p.1

  -- the walk leads where the machine's steps lead
  pub walk_leads : (s : ℕ) (xs : List ℕ) → s ≤ last → Bytes xs → outcome_at (walk_of grid s xs) ≡ run step_of (outcome_at s) xs
  unfolding walk_of run
  walk_leads s [] h p = refl
  walk_leads s (b ∷ bs) h p =
      let e = is.entries s b h p.0 in
      walk_leads (get_or grid (256 * s + b) 0) bs (rw e (entry_most s b)) p.1 ∙ ap (λ (o : Outcome Utf8). run step_of o bs) (ap outcome_at e ∙ leads s b h)

  module _ (xs : List ℕ) (bytes : Bytes xs) where
    from_start : outcome_at (walk_of grid 1 xs) ≡ run step_of (alive fresh) xs
    unfolding outcome_at record_at
    from_start = walk_leads 1 xs (omega arith) bytes

    -- Who ends in state 1 has read whole well-formed sequences.
    pub walk_text : walk_of grid 1 xs ≡ 1 → Text xs
    unfolding outcome_at record_at ended close_of plus
    walk_text e =
        let lives : run step_of (alive fresh) xs ≡ alive fresh = sym from_start ∙ ap outcome_at e in
        closes_text (pos 0) xs (fresh, (pos 0, ap (ended close_of) lives))

    -- Who has read whole well-formed sequences ends there.
    pub text_walk : Text xs → walk_of grid 1 xs ≡ 1
    unfolding state_after state_of next_in
    text_walk t = sym (state_stands (walk_of grid 1 xs) (walk_most 1 xs (omega arith) bytes)) ∙ ap state_after (from_start ∙ text_lives (pos 0) xs t)
