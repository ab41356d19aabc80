-- The loop that finds the leader, and the ways through its code.
use Rattle.std.specs.Prelude.{◌≡◌, true, false, ℕ, ◌+◌, ◌<◌, ◌≤◌, get_or, drop}
use Rattle.std.proofs.Math.Path.{refl}
use Rattle.std.proofs.Common.{sym, ap, ◌∙◌, not-suc-le-zero, add-one, arith, length-drop, drop-cons}
use mathlib.Core.List.{List, [], ◌∷◌}
use Rattle.std.proofs.Math.ListN.{length}
use Rattle.tables.specs.Own.{place_count}
use Rattle.places.specs.declared.place.Place.{Place}
use Rattle.state.specs.State.{triggered}
use Rattle.state.specs.Leader.{Best, better_of, best_from, leader_as, leader_of}
use Rattle.std.specs.declared.option.Option.TheVariants as best
use Rattle.state.specs.declared.leader.Leader.TheVariants.{Ascii}
use Rattle.state.specs.declared.State.{State}

pub leader_ascii : (s : State) → triggered s.front ≡ false → Ascii ≡ leader_of s
unfolding leader_of
leader_ascii s e = rw e

module _ (places : List Place) where
  -- ---- the loop: the first k places were looked at
  pub record Looked (b : Best) (k : ℕ) : Type 0 where
    pub within : k ≤ place_count
    pub long : length places ≡ place_count
    pub rest : best_from b k (drop k places) ≡ best_from best.None 0 places

  pub looked_start : length places ≡ place_count → Looked best.None 0
  looked_start e = record { within = omega arith; long = e; rest = refl }

  pub looked_next : (b c : Best) (k : ℕ) (d : Place) → Looked b k → k < place_count → c ≡ better_of b k (get_or places k d).score → Looked c (k + 1)
  unfolding best_from
  looked_next b c k d o h e =
      let i : k < length places = rw o.long h in
      record { within = omega arith; long = o.long; rest = rw (e, add-one) (ap (best_from b k) (sym (drop-cons places k d i)) ∙ o.rest) }

  looked_all : (b : Best) (k : ℕ) (ps : List Place) → length ps ≤ 0 → best_from b k ps ≡ b
  unfolding best_from
  looked_all b k [] h = refl
  looked_all b k (p ∷ ps) h = absurd (not-suc-le-zero h)

  pub looked_best : (b : Best) (k : ℕ) → Looked b k → place_count ≤ k → b ≡ best_from best.None 0 places
  looked_best b k o h = sym (looked_all b k (drop k places) (rw (length-drop, o.long) (omega arith))) ∙ o.rest

pub leader_is : (s : State) (b : Best) → triggered s.front ≡ true → b ≡ best_from best.None 0 s.places → leader_as s.places b ≡ leader_of s
unfolding leader_of
leader_is s b e q = rw (e, q)
