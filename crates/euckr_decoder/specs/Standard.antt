-- The Encoding Standard's EUC-KR decoder: what it has of its own in the frame of the pair decoders.
use Rattle.std.specs.Prelude.{Bool, false, cond, ◌&&◌, List, ℕ, eqb, length, Option, Some, None}
use Rattle.octets.specs.Octets.{between}
use Rattle.lengths.specs.Lengths.{euc_kr_count}
use Rattle.entries.specs.Entries as entries
use Rattle.pairs.specs.Pairs.{is_lead_or_none}
use Rattle.pairs.specs.Standard.{CodePoints, Layout, pointer, indexed, next}
use Rattle.pairs.specs.Events.{event_of, seen_by}
use Rattle.pairs.specs.declared.Decoded.{Decoded}
use Rattle.pairs.specs.declared.Event.{Event}

abbrev pub is_trail : ℕ → Bool
is_trail b = between 0x41 0xFE b

abbrev pub layout : Layout
layout = record { is_trail_lem = is_trail; offset = λ b. 0x41; row = 190 }

abbrev pub pointer_of : ℕ → ℕ → ℕ
pointer_of lead b = pointer layout lead b

abbrev pub is_mapped : ℕ → Bool
is_mapped entry = entries.is_mapped false entry

module _ (index : List ℕ) where
  abbrev pub points_of : ℕ → CodePoints
  points_of at = indexed is_mapped index at

  -- a lead and the byte after it
  unfoldable pub pair_of : ℕ → ℕ → Event
  pair_of lead b = event_of 2 (next layout points_of lead b)

  -- a byte after a lead, or after none, which is 0
  unfoldable pub decode_of : ℕ → ℕ → Decoded
  decode_of lead b = seen_by layout points_of lead b

  -- the decoder alone answers every lead, byte and index: only a lead that it can hold, or 0, and an index of the exact length are fit
  unfoldable pub reply_of : ℕ → ℕ → Option Decoded
  reply_of lead b = cond (is_lead_or_none lead && eqb (length index) euc_kr_count) (Some (decode_of lead b)) None
