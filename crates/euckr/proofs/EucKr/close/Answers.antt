-- `EucKr::close` meets its contract.
use mathlib.Core.Path.{sym, ◌∙◌}
use borrow.Author.Tests.{eq-eqb, ne_eqb}
use Rattle.laws.specs.Answer.{tested}
use Rattle.euckr.specs.EucKr.{closed_of}
use Rattle.euckr.proofs.EucKr.close.Goals as goal

pub returns-then-self-eq0 : goal.returns-then-self-eq0
unfolding closed_of tested
returns-then-self-eq0 c = rw (sym c.is_sound_for.ensures ∙ c.if-is_sound_for.true, eq-eqb _ _ c.if-self-eq0.true)

pub returns-then-is_sound_for : goal.returns-then-is_sound_for
unfolding closed_of tested
returns-then-is_sound_for c = rw (sym c.is_sound_for.ensures ∙ c.if-is_sound_for.true, ne_eqb _ _ c.if-self-eq0.false)

pub returns : goal.returns
unfolding closed_of tested
returns c = rw (sym c.is_sound_for.ensures ∙ c.if-is_sound_for.false)
