-- The Encoding Standard's Big5 decoder: what it has of its own in the frame of the pair decoders.
use Rattle.std.specs.Prelude.{Bool, true, cond, ◌&&◌, ◌||◌, List, ℕ, ltb, eqb, length, Option, Some, None}
use Rattle.octets.specs.Octets.{between}
use Rattle.lengths.specs.Lengths.{big5_count}
use Rattle.entries.specs.Entries as entries
use Rattle.pairs.specs.Pairs.{is_lead_or_none}
use Rattle.pairs.specs.Standard.{CodePoints, two, Layout, pointer, indexed, returned, next}
use Rattle.pairs.specs.Events.{event_of, seen_by}
use Rattle.pairs.specs.declared.Decoded.{Decoded}
use Rattle.pairs.specs.declared.Event.{Event}

abbrev pub is_trail : ℕ → Bool
is_trail b = between 0x40 0x7E b || between 0xA1 0xFE b

abbrev pub offset_of : ℕ → ℕ
offset_of b = cond (ltb b 0x7F) 0x40 0x62

abbrev pub layout : Layout
layout = record { is_trail_lem = is_trail; offset = offset_of; row = 157 }

abbrev pub pointer_of : ℕ → ℕ → ℕ
pointer_of lead b = pointer layout lead b

-- the index has code points of plane two: Hanzi of Hong Kong's extension
abbrev pub is_mapped : ℕ → Bool
is_mapped entry = entries.is_mapped true entry

module _ (index : List ℕ) where
  -- four pointers stand for two code points before the index is asked: 00CA and 00EA, each with a macron and with a caron, which
  -- have no code points of their own
  unfoldable pub points_of : ℕ → CodePoints
  points_of at =
      cond (eqb at 1133) (two 0xCA 0x304)
      (cond (eqb at 1135) (two 0xCA 0x30C)
      (cond (eqb at 1164) (two 0xEA 0x304)
      (cond (eqb at 1166) (two 0xEA 0x30C) (indexed is_mapped index at))))

  -- a lead and the byte after it
  unfoldable pub pair_of : ℕ → ℕ → Event
  pair_of lead b = event_of 2 (next layout points_of lead b)

  -- the same where the index is asked
  unfoldable pub entry_of : ℕ → ℕ → Event
  entry_of at b = event_of 2 (returned b (indexed is_mapped index at))

  -- a byte after a lead, or after none, which is 0
  unfoldable pub decode_of : ℕ → ℕ → Decoded
  decode_of lead b = seen_by layout points_of lead b

  -- the decoder alone answers every lead, byte and index: only a lead that it can hold, or 0, and an index of the exact length are fit
  unfoldable pub reply_of : ℕ → ℕ → Option Decoded
  reply_of lead b = cond (is_lead_or_none lead && eqb (length index) big5_count) (Some (decode_of lead b)) None
