-- `lines` meets its contract: what is left, written from here on, gives what the whole row gives from the start.
use mathlib.Core.Path.{refl, sym, ◌∙◌}
use native.Mathlib.Omega.{arith}
use Rattle.scribe.specs.LentLaws.{carried, kept}
use Rattle.utf8_sheet.specs.LoopLaws.{lines_turn, lines_done}
use Rattle.utf8_sheet.specs.Sheet.{runs_of}
use Rattle.utf8_sheet.proofs.sheet.lines.Goals as goal

pub loop-from-init : goal.loop-from-init
unfolding runs_of
loop-from-init c = (omega arith, refl)

pub loop-from-preserved : goal.loop-from-preserved
loop-from-preserved c =
    let l = c.loop-from in
    (c.run_end-past.ensures.within, carried _ _ _ _ (λ s e. lines_turn _ {q = s} _ l.from _ c.run_end-past.ensures e) c.line.ensures ∙ l.invariant.1)

pub returns : goal.returns
returns c = let l = c.loop-from in sym (kept _ _ (lines_done _ _ l.from c.loop-from-test.false)) ∙ l.invariant.1
