-- `at_place` meets its contract.
use Prim.Native.Nat.{◌-◌}
use lib.ListN.{length}
use borrow.Author.Tests.{eq-eqb, ne_eqb, lt-ltb, le-ltb}
use Rattle.scribe.specs.LentLaws.{with_both}
use Rattle.spot.specs.Spot.{at_place_text}
use Rattle.spot.proofs.at_place.Goals as goal

pub returns-then-place-eq0 : goal.returns-then-place-eq0
unfolding at_place_text
returns-then-place-eq0 c = rw (eq-eqb _ _ c.if-place-eq0.true) c.word.ensures

pub returns-then-place-saturating_sub : goal.returns-then-place-saturating_sub
unfolding at_place_text
returns-then-place-saturating_sub c = let a = c.args in rw (ne_eqb _ _ c.if-place-eq0.false, lt-ltb (a.place - 1) (length a.file.bytes.now - a.file.head) (rw c.saturating_sub.ensures at c.if-place-saturating_sub.true)) c.at_byte.ensures

pub returns-else-place-saturating_sub : goal.returns-else-place-saturating_sub
unfolding at_place_text
returns-else-place-saturating_sub c = let a = c.args in rw (ne_eqb _ _ c.if-place-eq0.false, le-ltb (a.place - 1) (length a.file.bytes.now - a.file.head) (rw c.saturating_sub.ensures at c.if-place-saturating_sub.false)) (with_both _ _ _ c.word-else-place-saturating_sub.ensures c.at_end.ensures)
