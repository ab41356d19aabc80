-- The printed sheets of two streams that meet the premises are equal but for the `bytes` line.
use Rattle.std.specs.Prelude.{◌≡◌, List, ◌++◌, ℕ}
use Rattle.std.proofs.Common.{sym, ap, ◌∙◌, append_assoc}
use Rattle.scribe.specs.Text.{ascii, newline, decimal_of}
use Rattle.places.specs.declared.place.Place.{Place}
use Rattle.state.specs.Leader.{leader_of}
use Rattle.state.specs.State.{start_of}
use Rattle.state.specs.declared.State.{State}
use Rattle.state.specs.declared.leader.Leader.{Leader}
use Rattle.sheet.specs.Sheet.{bytes_line, place_lines, leader_line, sheet_of}
use Rattle.privacy.specs.Posted.{Posted}
use Rattle.privacy.specs.Privacy.{after_calls}
use Rattle.privacy.proofs.PrivacyLaws.{privacy, same_places}

-- what stands before the line and behind it
abbrev title : List ℕ
title = ascii "slate 2" ++ newline

abbrev behind_of : ℕ → List Place → Leader → List ℕ
behind_of count ps l = (ascii "nonascii " ++ decimal_of count ++ newline) ++ place_lines 0 ps ++ leader_line l

abbrev behind : State → List ℕ
behind s = behind_of s.front.non_ascii_seen s.places (leader_of s)

sheet_parts : (s : State) → sheet_of s ≡ title ++ bytes_line s.front.bytes ++ behind s
unfolding sheet_of
sheet_parts s =
    let lines = title ++ bytes_line s.front.bytes in
    let count = ascii "nonascii " ++ decimal_of s.front.non_ascii_seen ++ newline in
    let places = place_lines 0 s.places in
    ap (λ (l : List ℕ). l ++ leader_line (leader_of s)) (append_assoc lines count places) ∙ append_assoc lines (count ++ places) (leader_line (leader_of s))

pub posted : Posted
posted t bits one two p =
    let first = after_calls t (start_of bits) one in
    let second = after_calls t (start_of bits) two in
    let agree = privacy t bits one two p in
    let same : behind second ≡ behind first =
    ap (λ (n : ℕ). behind_of n second.places (leader_of second)) (sym agree.count)
    ∙ (ap (λ (ps : List Place). behind_of first.front.non_ascii_seen ps (leader_of second)) (sym (same_places t bits one two p))
    ∙ ap (behind_of first.front.non_ascii_seen first.places) (sym agree.leader)) in
    record {
      before = title;
      behind = behind first;
      one_bytes = first.front.bytes;
      two_bytes = second.front.bytes;
      one_is = sheet_parts first;
      two_is = sheet_parts second ∙ ap (λ (l : List ℕ). title ++ bytes_line second.front.bytes ++ l) same;
    }
