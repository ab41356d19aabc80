-- `scan_from` meets its contract: the bytes that it passes are the head of what stands from the offset on.
use Rattle.std.specs.Prelude.{◌≡◌, ℕ, ◌+◌, drop, not}
use Rattle.std.proofs.Common.{rules, tests, ◌∙◌, sym}
use Rattle.std.proofs.lemmas.Iterator.{YieldsList-from_slice}
use Rattle.std.proofs.lemmas.Iterator.Consumers.{YieldsList-at, count_from_yields_List}
use Rattle.std.proofs.lemmas.Iterator.Search.{YieldsList-from_take_while}
use Rattle.std.proofs.lemmas.List.Folds.{length-prefix_len}
use Rattle.laws.specs.Lists.{rest_is}
use Rattle.context.specs.Head.{is_trigger, scanned_at}
use Rattle.context.specs.HeadLaws.{scan_from, scan_prefix, scanned_end, scanned_escape, scanned_non_ascii}
use Rattle.context.proofs.scan_from.Goals as goal
use Rattle.context.proofs.scan_from.Goals.{After-count}

found : (c : After-count) → scan_from c.args.from (drop c.args.from c.args.chunk.now) ≡ scanned_at (c.args.from + c.count.result) (drop (c.args.from + c.count.result) c.args.chunk.now)
found c =
    let clear = λ (b : ℕ). not (is_trigger b) in
    let rest = drop c.args.from c.args.chunk.now in
    scan_prefix c.args.from c.count.result c.args.chunk.now (count_from_yields_List c.take_while.result _ c.count.ensures.ran (YieldsList-from_take_while _ clear (YieldsList-at c.take_while.ensures.source (YieldsList-from_slice rest (c.iter.ensures.rest ∙ rest_is c.args.from c.args.chunk.now))) c.take_while.ensures.closure c.take_while.ensures.done (λ x b q k. search (rules, tests))) ∙ length-prefix_len clear rest)

pub returns-in-None : goal.returns-in-None
returns-in-None c = scanned_end _ _ c.in-None.ensures.lookup.3 ∙ sym (found (goal.at.returns-in-None c).After-count)

pub returns-in-Some-eq27 : goal.returns-in-Some-eq27
returns-in-Some-eq27 c =
    let l = c.in-Some-eq27.ensures.lookup in scanned_escape _ _ l.3.0 (sym (l.3.1 0) ∙ c.in-Some-eq27.field-0-test) ∙ sym (found (goal.at.returns-in-Some-eq27 c).After-count)

pub returns-in-Some : goal.returns-in-Some
returns-in-Some c =
    let l = c.in-Some.ensures.lookup in scanned_non_ascii _ _ l.3.0 (λ e. c.in-Some.field-0-test.1 (l.3.1 0 ∙ e)) ∙ sym (found (goal.at.returns-in-Some c).After-count)
