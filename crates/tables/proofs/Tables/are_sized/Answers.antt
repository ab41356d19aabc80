-- `are_sized` meets its contract.
use mathlib.Core.Path.{sym, ◌∙◌}
use Rattle.tables.specs.TablesLaws.{sized_each}
use Rattle.tables.proofs.Tables.are_sized.Goals as goal

pub returns-then-is_sized-4 : goal.returns-then-is_sized-4
returns-then-is_sized-4 c = rw (sized_each, sym c.is_sized.ensures ∙ c.if-is_sized.true, sym c.is_sized-then-is_sized.ensures ∙ c.if-is_sized-2.true, sym c.is_sized-then-is_sized-2.ensures ∙ c.if-is_sized-3.true, sym c.is_sized-then-is_sized-3.ensures ∙ c.if-is_sized-4.true) c.is_rest_sized.ensures

pub returns-else-is_sized-4 : goal.returns-else-is_sized-4
returns-else-is_sized-4 c = rw (sized_each, sym c.is_sized.ensures ∙ c.if-is_sized.true, sym c.is_sized-then-is_sized.ensures ∙ c.if-is_sized-2.true, sym c.is_sized-then-is_sized-2.ensures ∙ c.if-is_sized-3.true, sym c.is_sized-then-is_sized-3.ensures ∙ c.if-is_sized-4.false) c.if-is_sized-4.false

pub returns-else-is_sized-3 : goal.returns-else-is_sized-3
returns-else-is_sized-3 c = rw (sized_each, sym c.is_sized.ensures ∙ c.if-is_sized.true, sym c.is_sized-then-is_sized.ensures ∙ c.if-is_sized-2.true, sym c.is_sized-then-is_sized-2.ensures ∙ c.if-is_sized-3.false) c.if-is_sized-3.false

pub returns-else-is_sized-2 : goal.returns-else-is_sized-2
returns-else-is_sized-2 c = rw (sized_each, sym c.is_sized.ensures ∙ c.if-is_sized.true, sym c.is_sized-then-is_sized.ensures ∙ c.if-is_sized-2.false) c.if-is_sized-2.false

pub returns-else-is_sized : goal.returns-else-is_sized
returns-else-is_sized c = rw (sized_each, sym c.is_sized.ensures ∙ c.if-is_sized.false) c.if-is_sized.false
