-- `marked` meets its contract.
use Rattle.scribe.specs.LentLaws.{with_both}
use Prim.Native.Nat.{◌+◌}
use Rattle.spot.specs.Spot.{side, marked_text}
use Rattle.spot.specs.SpotLaws.{up_to}
use Rattle.spot.proofs.marked.Goals as goal

pub returns : goal.returns
unfolding marked_text
returns c = let a = c.args in
    with_both _ _ _ (with_both _ _ _ (with_both _ _ _ c.word.ensures c.hex.ensures) c.byte.ensures) (rw (c.shown-to.ensures.last, up_to (a.offset + 1) (a.offset + 1 + side) a.file.now) at c.hexes.ensures)
