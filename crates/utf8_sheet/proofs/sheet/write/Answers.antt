-- `write` meets its contract.
use Rattle.std.proofs.Common.{refl, sym, ◌∙◌}
use Rattle.scribe.specs.LentLaws.{carried, kept}
use Rattle.utf8_sheet.specs.LoopLaws.{states_turn, states_done}
use Rattle.utf8_sheet.specs.Sheet.{sheet_of}
use Rattle.utf8_sheet.proofs.sheet.write.Goals as goal

pub loop-s-init : goal.loop-s-init
unfolding sheet_of
loop-s-init c = refl

pub loop-s-preserved : goal.loop-s-preserved
loop-s-preserved c = carried _ _ _ _ (λ s e. states_turn _ {q = s} _ c.loop-s.s c.loop-s-test.true e) c.state.ensures ∙ c.loop-s.invariant

pub returns : goal.returns
returns c = sym (kept _ _ (states_done _ _ c.loop-s.s c.loop-s-test.false)) ∙ c.loop-s.invariant
