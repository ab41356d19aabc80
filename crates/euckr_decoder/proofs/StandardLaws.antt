-- A pointer is the pair's rank, and which byte sequences EUC-KR takes for what, both ways.
use Rattle.std.specs.Prelude.{◌≡◌, refl, true, List, ℕ, ◌-◌, ◌<◌, get_or}
use Rattle.std.proofs.Common.{sym, arith}
use Rattle.laws.specs.Lists.{count}
use Rattle.lengths.specs.Lengths.{euc_kr_count}
use Rattle.pairs.specs.Pairs.{is_lead}
use Rattle.pairs.specs.Ranges.{range_true}
use Rattle.pairs.specs.Ranks.{numbers, those, rank_of}
use Rattle.pairs.specs.RanksLaws as ranks
use Rattle.pairs.specs.RanksLaws.{CountedTrails, counts, counted_by}
use Rattle.pairs.specs.Sequences.{Yields, Reads}
use Rattle.pairs.proofs.SequencesLaws.{yields_reads, reads_yields}
use Rattle.pairs.specs.declared.Event.{Event}
use Rattle.pairs.specs.declared.Event.TheVariants.{Point}
use Rattle.euckr_decoder.specs.Standard.{is_trail, layout, pointer_of, is_mapped, points_of, pair_of}
use Rattle.euckr_decoder.specs.Ways.{pair_mapped}

-- ---- pointers: the rank by lead and then by trail, in the index, and no two the same
pub counted : CountedTrails layout
unfolding count those numbers counts
counted = counted_by is_trail layout.row (λ b. b - layout.offset b) (λ b t. omega (arith, range_true 0x41 0xFE b t)) refl tt

module _ (lead b : ℕ) (l : is_lead lead ≡ true) (t : is_trail b ≡ true) where
  pub pointer_rank : pointer_of lead b ≡ rank_of is_lead is_trail lead b
  pointer_rank = ranks.pointer_rank layout counted lead b l t

  pub pointer_below : pointer_of lead b < euc_kr_count
  pointer_below = ranks.pointer_below layout counted lead b l t

pub pointer_once : (lead b lead' b' : ℕ) → is_lead lead ≡ true → is_trail b ≡ true → is_lead lead' ≡ true → is_trail b' ≡ true → pointer_of lead b ≡ pointer_of lead' b' → (lead ≡ lead') × (b ≡ b')
pointer_once = ranks.pointer_once layout counted

-- ---- the decoder reads the sequences of bytes that Yields says, and no others
module _ (index : List ℕ) where
  pub decoder_reads : (bs : List ℕ) (v : Event) → Yields is_trail (points_of index) bs v → Reads layout (points_of index) bs v
  decoder_reads = yields_reads layout (points_of index) counted

  pub decoder_yields : (bs : List ℕ) (v : Event) → Reads layout (points_of index) bs v → Yields is_trail (points_of index) bs v
  decoder_yields = reads_yields layout (points_of index) counted

  -- a mapped pair is its code point
  pub mapped_pair : (lead b : ℕ) → is_trail b ≡ true → is_mapped (get_or index (pointer_of lead b) 0) ≡ true → pair_of index lead b ≡ Point (get_or index (pointer_of lead b) 0)
  mapped_pair lead b t m = sym (pair_mapped index lead b (pointer_of lead b) (get_or index (pointer_of lead b) 0) t refl refl m)
