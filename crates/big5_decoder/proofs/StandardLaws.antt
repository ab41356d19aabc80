-- A pointer is the pair's rank, and which byte sequences Big5 takes for what, both ways.
use Rattle.std.specs.Prelude.{◌≡◌, refl, Bool, true, false, ◌||◌, List, ℕ, ◌+◌, ◌-◌, ◌/◌, ◌<◌, ◌≤◌, get_or}
use Rattle.std.proofs.Common.{⊎_elim, arith}
use Rattle.laws.specs.Lists.{count, is_in}
use Rattle.lengths.specs.Lengths.{big5_count}
use Rattle.octets.specs.Octets.{between}
use Rattle.pairs.specs.Pairs.{is_lead}
use Rattle.pairs.specs.Ranges.{range_true}
use Rattle.pairs.specs.Standard.{indexed, returned}
use Rattle.pairs.specs.Events.{points_as, event_of}
use Rattle.pairs.specs.Ranks.{numbers, those, rank_of}
use Rattle.pairs.specs.RanksLaws as ranks
use Rattle.pairs.specs.RanksLaws.{CountedTrails, counts, counted_by}
use Rattle.pairs.specs.Sequences.{Yields, Reads}
use Rattle.pairs.proofs.SequencesLaws.{yields_reads, reads_yields}
use Rattle.pairs.specs.declared.Event.{Event}
use Rattle.pairs.specs.declared.Event.TheVariants.{Point}
use Rattle.big5_decoder.specs.Standard.{is_trail, layout, pointer_of, is_mapped, points_of, pair_of}
use Rattle.big5_decoder.specs.SpecialsLaws.{specials, other_points}
use Rattle.big5_decoder.specs.Ways.{trail_cases}

-- ---- pointers: the rank by lead and then by trail, in the index, and no two the same
pub counted : CountedTrails layout
unfolding count those numbers counts
counted = counted_by is_trail layout.row (λ b. b - layout.offset b) (λ b t. ⊎_elim (λ h. omega arith) (λ h. omega arith) (trail_cases b t)) refl tt

module _ (lead b : ℕ) (l : is_lead lead ≡ true) (t : is_trail b ≡ true) where
  pub pointer_rank : pointer_of lead b ≡ rank_of is_lead is_trail lead b
  pointer_rank = ranks.pointer_rank layout counted lead b l t

  pub pointer_below : pointer_of lead b < big5_count
  pointer_below = ranks.pointer_below layout counted lead b l t

pub pointer_once : (lead b lead' b' : ℕ) → is_lead lead ≡ true → is_trail b ≡ true → is_lead lead' ≡ true → is_trail b' ≡ true → pointer_of lead b ≡ pointer_of lead' b' → (lead ≡ lead') × (b ≡ b')
pointer_once = ranks.pointer_once layout counted

-- ---- the decoder reads the sequences of bytes that Yields says, and no others
module _ (index : List ℕ) where
  pub decoder_reads : (bs : List ℕ) (v : Event) → Yields is_trail (points_of index) bs v → Reads layout (points_of index) bs v
  decoder_reads = yields_reads layout (points_of index) counted

  pub decoder_yields : (bs : List ℕ) (v : Event) → Reads layout (points_of index) bs v → Yields is_trail (points_of index) bs v
  decoder_yields = reads_yields layout (points_of index) counted

  -- a mapped pair is its code point
  pub mapped_pair : (lead b : ℕ) → is_trail b ≡ true → is_in specials (pointer_of lead b) ≡ false → is_mapped (get_or index (pointer_of lead b) 0) ≡ true → pair_of index lead b ≡ Point (get_or index (pointer_of lead b) 0)
  unfolding pair_of indexed returned event_of points_as
  mapped_pair lead b t s m = rw (t, other_points index (pointer_of lead b) s, m)

-- ---- a code point above FFFF is a pair of units: what the index yields there begins with a unit of its own, neither CA nor EA
abbrev pub first_unit : ℕ → ℕ
first_unit point = 0xD800 + (point - 0x10000) / 0x400

pub pair_first : (point : ℕ) → is_mapped point ≡ true → 0x10000 ≤ point → (0xD840 ≤ first_unit point) × (first_unit point ≤ 0xD87F)
pair_first point e h = plane_two (between 0x80 0xD7FF point) (between 0xE000 0xFFFF point) refl refl e where
  plane_two : (a b : Bool) → between 0x80 0xD7FF point ≡ a → between 0xE000 0xFFFF point ≡ b → (a || (b || between 0x20000 0x2FFFF point)) ≡ true → (0xD840 ≤ first_unit point) × (first_unit point ≤ 0xD87F)
  plane_two true b p q r = let x = range_true 0x80 0xD7FF point p in absurd (omega arith)
  plane_two false true p q r = let x = range_true 0xE000 0xFFFF point q in absurd (omega arith)
  plane_two false false p q r = let x = range_true 0x20000 0x2FFFF point r in (omega arith, omega arith)
