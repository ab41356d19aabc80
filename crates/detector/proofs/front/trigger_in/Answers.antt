-- `trigger_in` meets its contract.
use mathlib.Core.Path.{sym, ap, ◌∙◌}
use Rattle.detector.specs.Front.{found_as}
use Rattle.detector.specs.FrontLaws.{trigger_earlier, trigger_found}
use Rattle.detector.proofs.front.trigger_in.Goals as goal

pub returns-then-is_triggered : goal.returns-then-is_triggered
returns-then-is_triggered c = let s = c in trigger_earlier s.args.front s.args.chunk.now (sym c.is_triggered.ensures ∙ c.if-is_triggered.true)

pub returns-in-Escape : goal.returns-in-Escape
returns-in-Escape c = let s = c in ap found_as (sym c.in-Escape.is) ∙ trigger_found s.args.front s.args.chunk.now c.scan.result (sym c.is_triggered.ensures ∙ c.if-is_triggered.false) c.scan.ensures

pub returns-in-NonAscii : goal.returns-in-NonAscii
returns-in-NonAscii c = let s = c in ap found_as (sym c.in-NonAscii.is) ∙ trigger_found s.args.front s.args.chunk.now c.scan.result (sym c.is_triggered.ensures ∙ c.if-is_triggered.false) c.scan.ensures

pub returns-in-End : goal.returns-in-End
returns-in-End c = let s = c in ap found_as (sym c.in-End.is) ∙ trigger_found s.args.front s.args.chunk.now c.scan.result (sym c.is_triggered.ensures ∙ c.if-is_triggered.false) c.scan.ensures
