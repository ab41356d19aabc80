-- `scan` meets its contract: past the blocks that have no trigger the scan goes on as it began.
use Rattle.std.specs.Prelude.{◌≡◌, List, ℕ, ◌*◌, ◌/◌, not, length, drop}
use Rattle.std.specs.List.{prefix_len}
use Rattle.std.specs.Simd.{first_chunks}
use Rattle.std.proofs.Common.{rules, tests, ◌∙◌, arith, zero-add}
use Rattle.std.proofs.lemmas.Iterator.{YieldsList-from_slice}
use Rattle.std.proofs.lemmas.Iterator.Consumers.{YieldsList-at, count_from_yields_List}
use Rattle.std.proofs.lemmas.Iterator.Search.{YieldsList-from_take_while}
use Rattle.std.proofs.lemmas.List.Folds.{length-prefix_len}
use Rattle.laws.specs.Lists.{any}
use Rattle.context.specs.Head.{is_trigger, scan_of}
use Rattle.context.specs.HeadLaws.{scan_from, scan_start, past_clear}
use Rattle.context.proofs.scan.Goals as goal

going_on : (xs : List ℕ) (blocks : List (List ℕ)) (n : ℕ) → blocks ≡ first_chunks 64 (length xs / 64) xs → n ≡ prefix_len (λ block. not (any is_trigger block)) blocks → scan_from (n * 64) (drop (n * 64) xs) ≡ scan_of xs
going_on xs blocks n e f = rw (f, e) (rw zero-add at (past_clear 64 (length xs / 64) 0 xs (omega arith)) ∙ scan_start xs)

pub returns : goal.returns
returns c =
    let clear = λ (block : List ℕ). not (any is_trigger block) in
    let blocks = c.as_chunks.result.0.now in
    c.scan_from.ensures ∙ going_on c.args.chunk.now blocks c.count-clear.result c.as_chunks.ensures.front (count_from_yields_List c.take_while.result _ c.count-clear.ensures.ran (YieldsList-from_take_while _ clear (YieldsList-at c.take_while.ensures.source (YieldsList-from_slice blocks cc)) c.take_while.ensures.closure c.take_while.ensures.done (λ x b q k. search (rules, tests))) ∙ length-prefix_len clear blocks)
