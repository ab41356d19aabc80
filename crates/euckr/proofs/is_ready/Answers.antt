-- `is_ready` meets its contract.
use mathlib.Core.Path.{sym, ◌∙◌}
use borrow.Author.Tests.{le-leb, lt-leb}
use Rattle.euckr.specs.EucKr.{ready_b}
use Rattle.euckr.proofs.is_ready.Goals as goal

pub returns-then-part-le-MOST : goal.returns-then-part-le-MOST
unfolding ready_b
returns-then-part-le-MOST c = rw (sym c.is_sound_for.ensures ∙ c.if-is_sound_for.true, le-leb _ _ c.if-part-le-MOST.true) c.is_lent.ensures

pub returns-else-part-le-MOST : goal.returns-else-part-le-MOST
unfolding ready_b
returns-else-part-le-MOST c = rw (sym c.is_sound_for.ensures ∙ c.if-is_sound_for.true, lt-leb _ _ c.if-part-le-MOST.false)

pub returns-else-is_sound_for : goal.returns-else-is_sound_for
unfolding ready_b
returns-else-is_sound_for c = rw (sym c.is_sound_for.ensures ∙ c.if-is_sound_for.false) c.if-is_sound_for.false
