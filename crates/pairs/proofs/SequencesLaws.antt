-- Both ways: a pair decoder reads a byte sequence and yields an event exactly if Yields says so.
use Rattle.std.specs.Prelude.{◌≡◌, refl, Bool, true, false, List, [], ◌∷◌, ℕ, ◌-◌, length}
use Rattle.std.proofs.Common.{sym, ◌∙◌, arith}
use Rattle.std.proofs.Math.Path.{ap}
use Rattle.laws.specs.Tests.{through}
use Rattle.octets.specs.Octets.{ascii}
use Rattle.pairs.specs.Pairs.{is_lead, decoded}
use Rattle.pairs.specs.PairsLaws.{lead_bounds}
use Rattle.pairs.specs.Ranks.{rank_of}
use Rattle.pairs.specs.RanksLaws.{CountedTrails, pointer_rank}
use Rattle.pairs.specs.Sequences.{error_at, Yields, ascii_byte, lone_byte, one_point, two_points, no_point, no_trail, Reads}
use Rattle.pairs.specs.Standard.{CodePoints, null, one, two, Layout, returned}
use Rattle.pairs.specs.Events.{points_as, event_of, seen_by, first_of, malformed_of}
use Rattle.pairs.specs.declared.Decoded.{Decoded}
use Rattle.pairs.specs.declared.Event.{Event}
use Rattle.pairs.specs.declared.Event.TheVariants.{Pending, Point, Error}
use Rattle.pairs.specs.SequencesLaws.{first_lead, first_ascii, first_lone, pair_seen}

pub malformed_is : (b : ℕ) → malformed_of b ≡ error_at b
unfolding returned event_of
malformed_is b = through (λ (xs : List ℕ). Error (2 - length xs)) (ascii b) (b ∷ []) []

module _ (e : Layout) (points : ℕ → CodePoints) (counted : CountedTrails e) where
  abbrev Yielded : List ℕ → Event → Type 0
  Yielded bs v = Yields e.is_trail_lem points bs v

  module _ (lead b : ℕ) (l : is_lead lead ≡ true) where
    -- what stands at the pair's rank is seen
    seen_at : (ps : CodePoints) → e.is_trail_lem b ≡ true → points (rank_of is_lead e.is_trail_lem lead b) ≡ ps → seen_by e points lead b ≡ decoded 0 (event_of 2 (returned b ps))
    seen_at ps t h = pair_seen e points lead b l ∙ rw (t, pointer_rank e counted lead b l t, h)

    seen_no_trail : e.is_trail_lem b ≡ false → seen_by e points lead b ≡ decoded 0 (error_at b)
    seen_no_trail t = pair_seen e points lead b l ∙ rw (t, malformed_is b)

  pub yields_reads : (bs : List ℕ) (v : Event) → Yielded bs v → Reads e points bs v
  unfolding returned event_of points_as
  yields_reads bs v (ascii_byte b p) = first_ascii b p
  yields_reads bs v (lone_byte b p q) = first_lone b p q
  yields_reads bs v (one_point lead b p l t h) = (first_lead lead l, seen_at lead b l (one p) t h)
  yields_reads bs v (two_points lead b p q l t h) = (first_lead lead l, seen_at lead b l (two p q) t h)
  yields_reads bs v (no_point lead b l t h) = (first_lead lead l, seen_at lead b l null t h ∙ ap (decoded 0) (malformed_is b))
  yields_reads bs v (no_trail lead b l t) = (first_lead lead l, seen_no_trail lead b l t)

  -- ---- and back
  module _ (lead b : ℕ) (l : is_lead lead ≡ true) where
    point_yields : (ps : CodePoints) → e.is_trail_lem b ≡ true → points (rank_of is_lead e.is_trail_lem lead b) ≡ ps → Yielded (lead ∷ b ∷ []) (event_of 2 (returned b ps))
    unfolding returned event_of points_as
    point_yields null t h = rw (malformed_is b) (no_point lead b l t h)
    point_yields (one p) t h = one_point lead b p l t h
    point_yields (two p q) t h = two_points lead b p q l t h

    pair_yields : (v : Event) (t : Bool) → e.is_trail_lem b ≡ t → seen_by e points lead b ≡ decoded 0 v → Yielded (lead ∷ b ∷ []) v
    pair_yields v true t r =
        let ps = points (rank_of is_lead e.is_trail_lem lead b) in
        let f : v ≡ event_of 2 (returned b ps) = ap (λ (d : Decoded). d.event) (sym r ∙ seen_at lead b l ps t refl) in
        rw f (point_yields ps t refl)
    pair_yields v false t r = let f : v ≡ error_at b = ap (λ (d : Decoded). d.event) (sym r ∙ seen_no_trail lead b l t) in rw f (no_trail lead b l t)

  byte_yields : (b : ℕ) (v : Event) (s t : Bool) → ascii b ≡ s → is_lead b ≡ t → first_of b ≡ decoded 0 v → Yielded (b ∷ []) v
  byte_yields b v true t p q r = let f : v ≡ Point b = ap (λ (d : Decoded). d.event) (sym r ∙ first_ascii b p) in rw f (ascii_byte b p)
  byte_yields b v false true p q r =
      let z : b ≡ 0 = ap (λ (d : Decoded). d.lead) (sym (first_lead b q) ∙ r) in
      absurd (omega (arith, lead_bounds b q))
  byte_yields b v false false p q r = let f : v ≡ Error 1 = ap (λ (d : Decoded). d.event) (sym r ∙ first_lone b p q) in rw f (lone_byte b p q)

  is_lead_lem : (lead : ℕ) (s t : Bool) → ascii lead ≡ s → is_lead lead ≡ t → first_of lead ≡ decoded lead Pending → is_lead lead ≡ true
  is_lead_lem lead true t p q r = let f : Pending ≡ Point lead = ap (λ (d : Decoded). d.event) (sym r ∙ first_ascii lead p) in cc
  is_lead_lem lead false true p q r = q
  is_lead_lem lead false false p q r = let f : Pending ≡ Error 1 = ap (λ (d : Decoded). d.event) (sym r ∙ first_lone lead p q) in cc

  pub reads_yields : (bs : List ℕ) (v : Event) → Reads e points bs v → Yielded bs v
  reads_yields [] v r = absurd r
  reads_yields (b ∷ []) v r = byte_yields b v (ascii b) (is_lead b) refl refl r
  reads_yields (lead ∷ b ∷ []) v r =
      pair_yields lead b (is_lead_lem lead (ascii lead) (is_lead lead) refl refl r.0) v (e.is_trail_lem b) refl r.1
  reads_yields (a ∷ b ∷ c ∷ bs) v r = absurd r
