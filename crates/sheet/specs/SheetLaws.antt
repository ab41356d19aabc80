-- The places' lines one after the other, in a loop: one turn at k, and the end. How long the leader's line can be.
use Rattle.std.specs.Prelude.{◌≡◌, refl, List, ℕ, suc, ◌+◌, ◌≤◌, ◌<◌, length, get_or, drop}
use Rattle.std.proofs.Common.{add-one, drop_of_length-le, drop-cons}
use Rattle.names.specs.NamesLaws.{place_name_lem}
use Rattle.scribe.specs.FitsLaws.{Fits, text, line_end, joined, wide}
use Rattle.scribe.specs.Page.{Page, onto}
use Rattle.scribe.specs.PageLaws.{onto_append}
use Rattle.places.specs.declared.place.Place.{Place}
use Rattle.state.specs.declared.leader.Leader as leader
use Rattle.sheet.specs.Sheet.{place_line, place_lines, leader_name, leader_line}

pub lines_turn : (p q : Page) (ps : List Place) (k : ℕ) (d : Place) → k < length ps → q ≡ onto p (place_line k (get_or ps k d).score) → onto q (place_lines (k + 1) (drop (k + 1) ps)) ≡ onto p (place_lines k (drop k ps))
unfolding place_lines
lines_turn p q ps k d h e = rw (drop-cons ps k d h, add-one, e, ← onto_append p (place_line k (get_or ps k d).score) (place_lines (suc k) (drop (suc k) ps)))

pub lines_done : (p : Page) (ps : List Place) (k : ℕ) → length ps ≤ k → onto p (place_lines k (drop k ps)) ≡ p
unfolding onto place_lines
lines_done p ps k h = rw (drop_of_length-le ps {i = k} h)

-- ---- the leader
leader_name_lem : (l : leader.Leader) → Fits 13 (leader_name l)
unfolding leader_name
leader_name_lem leader.TheVariants.Ascii = wide (text "ascii") refl
leader_name_lem leader.TheVariants.None = wide (text "none") refl
leader_name_lem (leader.TheVariants.Place k) = place_name_lem k

pub leader_short : (l : leader.Leader) → Fits 21 (leader_line l)
unfolding leader_line
leader_short l = joined (joined (text "leader ") (leader_name_lem l)) line_end
