-- The edge lines on Big5, from fresh, for all lent data that meets the line's premise.
use Rattle.std.specs.Prelude.{◌≡◌, true, false, [], ◌∷◌, ℕ, ◌≤◌, ◌+ℤ◌, get_or, ℤ, Option, None}
use Rattle.std.proofs.Math.Path.{refl, ap}
use Rattle.std.proofs.Common.{sym, ◌∙◌, arith, ne_eqb, lt-ltb, le-ltb}
use Rattle.std.proofs.Math.IntN.{pos, +ℤ_idl, +ℤ_idr}
use Rattle.laws.specs.Lists.{any, is_in}
use Rattle.laws.specs.Run.{none, live, plus, with_byte, run}
use Rattle.laws.specs.declared.Reason.TheVariants.{BadByte, BadSecondByte}
use Rattle.octets.specs.Octets.{between}
use Rattle.laws.specs.Handler.{vars_of}
use Rattle.pairs.specs.Pairs.{is_lead, decoded}
use Rattle.pairs.specs.Standard.{first, returned, indexed}
use Rattle.pairs.specs.Events.{points_as, event_of}
use Rattle.pairs.specs.Ranges.{inside, below, above, range_true}
use Rattle.pairs.specs.SequencesLaws.{pair_seen}
use Rattle.pairs.specs.declared.Event.TheVariants.{Point}
use Rattle.big5_decoder.specs.Standard.{is_trail, layout, is_mapped, pointer_of, points_of, pair_of, decode_of}
use Rattle.big5_decoder.specs.SpecialsLaws.{specials}
use Rattle.big5_decoder.proofs.StandardLaws.{mapped_pair}
use Rattle.big5.specs.Ways.{step_on}
use Rattle.big5.specs.Scoring.{is_distinct, other_of, unit_of, point_of, after_byte, unmapped_of, extension_of, stray_of, error_of, fresh, Lent, step_of}
use Rattle.big5.specs.declared.Big5.{Big5}
use Rattle.big5.specs.declared.LatinCj.{LatinCj}
use Rattle.big5.specs.declared.LatinCj.TheVariants.{Cj, Other}
use Rattle.big5.specs.declared.Scale.{Scale}

-- a record with nothing pending and nothing held
abbrev pub rest : LatinCj → ℕ → Big5
rest prev byte = record { lead = 0; prev = prev; prev_byte = byte; held = None }

module _ (t : Lent) where
  -- FD FF: the extension weight twice, then Other
  pub fd_ff : run (step_of t) (live fresh (pos 0)) (0xFD ∷ 0xFF ∷ []) ≡ live (rest Other 0xFF) (t.scale.extension +ℤ t.scale.extension)
  unfolding run with_byte plus step_of decode_of first returned vars_of event_of points_as error_of stray_of extension_of any
  fd_ff = ap (live (rest Other 0xFF)) (+ℤ_idl (t.scale.extension +ℤ t.scale.extension))

  -- FD 61, unmapped: the private-use weight once
  pub fd_61 : is_mapped (get_or t.index (pointer_of 0xFD 0x61) 0) ≡ false → run (step_of t) (live fresh (pos 0)) (0xFD ∷ 0x61 ∷ []) ≡ live (rest Cj 0x61) t.scale.pua
  unfolding run with_byte plus step_of decode_of first points_of indexed returned vars_of event_of points_as error_of unmapped_of any
  fd_61 e = rw e (ap (live (rest Cj 0x61)) (+ℤ_idl (pos 0 +ℤ t.scale.pua +ℤ pos 0) ∙ (+ℤ_idr (pos 0 +ℤ t.scale.pua) ∙ +ℤ_idl t.scale.pua)))

  -- A4 FF: none
  pub a4_ff : run (step_of t) (live fresh (pos 0)) (0xA4 ∷ 0xFF ∷ []) ≡ none BadSecondByte
  unfolding run with_byte plus step_of decode_of first returned vars_of event_of points_as error_of stray_of any
  a4_ff = refl

  -- 80 alone: none
  pub lone_80 : run (step_of t) (live fresh (pos 0)) (0x80 ∷ []) ≡ none BadByte
  unfolding run with_byte plus step_of decode_of first vars_of event_of error_of stray_of any
  lone_80 = refl

  -- ---- states that no stream leads to, and what the rules' widths take in
  -- a lead A4 after a byte 00, then an unmapped A1: none, for the rule looks at the byte before
  pub a4_after_00 : (prev : LatinCj) (held : Option ℤ) → is_mapped (get_or t.index (pointer_of 0xA4 0xA1) 0) ≡ false → step_of t (record { lead = 0xA4; prev = prev; prev_byte = 0x00; held = held }) 0xA1 ≡ none BadSecondByte
  unfolding step_of decode_of points_of indexed returned vars_of event_of points_as error_of stray_of any
  a4_after_00 prev held e = rw e

  -- a pair that ends in FD, then FF alone: the extension weight twice, and what was held is dropped
  pub after_fd_ff : (prev : LatinCj) (held : Option ℤ) → step_of t (record { lead = 0; prev = prev; prev_byte = 0xFD; held = held }) 0xFF ≡ live (rest Other 0xFF) (t.scale.extension +ℤ t.scale.extension)
  unfolding step_of decode_of first vars_of event_of error_of stray_of extension_of any
  after_fd_ff prev held = refl

  -- the four specials come before the index, whatever it holds there: 88 62 is CA and 304, and scores as other
  pub special_88_62 : run (step_of t) (live fresh (pos 0)) (0x88 ∷ 0x62 ∷ []) ≡ live (rest Other 0x62) t.scale.other
  unfolding run with_byte plus step_of decode_of first points_of returned vars_of event_of points_as other_of
  special_88_62 = ap (live (rest Other 0x62)) (+ℤ_idl (pos 0 +ℤ t.scale.other) ∙ +ℤ_idl t.scale.other)

-- ---- mapped private use
not_distinct : (u : ℕ) → 0xE000 ≤ u → u ≤ 0xF8FF → is_distinct u ≡ false
unfolding any
not_distinct u p q = rw (ne_eqb u 0x3000 (λ z. omega arith), ne_eqb u 0x3001 (λ z. omega arith), ne_eqb u 0x3002 (λ z. omega arith), ne_eqb u 0xFF08 (λ z. omega arith), ne_eqb u 0xFF09 (λ z. omega arith), ne_eqb u 0xFF01 (λ z. omega arith), ne_eqb u 0xFF0C (λ z. omega arith), ne_eqb u 0xFF1B (λ z. omega arith), ne_eqb u 0xFF1F (λ z. omega arith))

point_private : (w : Scale) (m : Big5) (u : ℕ) → between 0xE000 0xF8FF u ≡ true → point_of w m u ≡ other_of m w.other
unfolding point_of unit_of
point_private w m u e =
    let h = range_true 0xE000 0xF8FF u e in
    rw (lt-ltb u 0x10000 (omega arith), above 0x61 0x7A u (omega arith), above 0x41 0x5A u (omega arith), above 0x3400 0x9FFF u (omega arith), below 0xF900 0xFAFF u (omega arith), not_distinct u h.0 h.1, le-ltb u 0x80 (omega arith))

private_mapped : (u : ℕ) → between 0xE000 0xF8FF u ≡ true → is_mapped u ≡ true
private_mapped u e = let h = range_true 0xE000 0xF8FF u e in rw (above 0x80 0xD7FF u (omega arith), inside 0xE000 0xFFFF u (omega arith) (omega arith))

mapped_decoded : (t : Lent) (lead b : ℕ) → is_lead lead ≡ true → is_trail b ≡ true → is_in specials (pointer_of lead b) ≡ false → is_mapped (get_or t.index (pointer_of lead b) 0) ≡ true → decoded 0 (Point (get_or t.index (pointer_of lead b) 0)) ≡ decode_of t.index lead b
unfolding decode_of pair_of
mapped_decoded t lead b l r s e = sym (pair_seen layout (points_of t.index) lead b l ∙ ap (decoded 0) (mapped_pair t.index lead b r s e))

-- a pair that the index maps to private use scores as other; the private-use weight is for unmapped pairs
pub private_use : (t : Lent) (m : Big5) (b : ℕ) → is_lead m.lead ≡ true → is_trail b ≡ true → is_in specials (pointer_of m.lead b) ≡ false → between 0xE000 0xF8FF (get_or t.index (pointer_of m.lead b) 0) ≡ true → step_of t m b ≡ after_byte 0 b (other_of m t.scale.other)
private_use t m b l r s e =
    let u = get_or t.index (pointer_of m.lead b) 0 in
    sym (step_on t m b (decoded 0 (Point u)) (mapped_decoded t m.lead b l r s (private_mapped u e)) (Point u) refl) ∙ ap (after_byte 0 b) (point_private t.scale m u e)
