-- `Utf8::run` meets its contract.
use Rattle.std.specs.Prelude.{Ok}
use Rattle.std.proofs.Common.{sym, ap, ◌∙◌, eqb-true}
use Rattle.std.proofs.Math.Bool.{and-false}
use borrow.Author.Tests.{lt-leb}
use Rattle.laws.specs.Answer.{if_unfit}
use Rattle.utf8.specs.Utf8.{ready_b, ran_of}
use Rattle.utf8.specs.GridLaws.{ran_bad, state_live, ran_state, ran_ascii}
use Rattle.utf8.proofs.Utf8.run.Goals as goal

pub returns-then-from-eq-BAD : goal.returns-then-from-eq-BAD
returns-then-from-eq-BAD c = ran_bad _ _ c.state-from.ensures _ c.if-from-eq-BAD.true

pub returns-then-part-gt-MOST : goal.returns-then-part-gt-MOST
unfolding ran_of ready_b
returns-then-part-gt-MOST c = sym (if_unfit _ _ (rw (lt-leb _ _ c.if-part-gt-MOST.true, and-false)))

pub returns-then-is_ascii : goal.returns-then-is_ascii
returns-then-is_ascii c =
    ap Ok c.fresh.ensures ∙ ran_ascii _ _ c.state-from.ensures c.if-from-eq-BAD.false _ c.if-part-gt-MOST.false c.if-from-eq-BETWEEN.true (eqb-true _ _ (sym c.is_ascii.ensures ∙ c.if-is_ascii.true))

pub run-requires : goal.run-requires
run-requires c = state_live _ _ c.state-from.ensures c.if-from-eq-BAD.false

pub returns : goal.returns
returns c = c.run.ensures ∙ ran_state _ _ c.state-from.ensures c.if-from-eq-BAD.false _ c.if-part-gt-MOST.false
