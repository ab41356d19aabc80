-- `EucKr::is_sound_for` meets its contract.
use mathlib.Core.Path.{sym, ◌∙◌}
use borrow.Author.Tests.{le-leb, lt-leb}
use Rattle.euckr.specs.EucKr.{sound_b}
use Rattle.euckr.proofs.EucKr.is_sound_for.Goals as goal

pub returns-then-self-bytes : goal.returns-then-self-bytes
unfolding sound_b
returns-then-self-bytes c = rw (sym c.is_lead_or_none.ensures ∙ c.if-is_lead_or_none.true, le-leb _ _ c.if-self-bytes.true) c.is_small.ensures

pub returns-else-self-bytes : goal.returns-else-self-bytes
unfolding sound_b
returns-else-self-bytes c = rw (sym c.is_lead_or_none.ensures ∙ c.if-is_lead_or_none.true, lt-leb _ _ c.if-self-bytes.false)

pub returns-else-is_lead_or_none : goal.returns-else-is_lead_or_none
unfolding sound_b
returns-else-is_lead_or_none c = rw (sym c.is_lead_or_none.ensures ∙ c.if-is_lead_or_none.false) c.if-is_lead_or_none.false
