-- `place_lines` meets its contract.
use Rattle.std.proofs.Common.{sym, ◌∙◌, arith}
use Rattle.scribe.specs.Lent.{seen}
use Rattle.scribe.specs.LentLaws.{carried, kept}
use Rattle.account.specs.AccountLaws.{lines_turn, lines_done}
use Rattle.account.proofs.place_lines.Goals as goal

pub loop-k-preserved : goal.loop-k-preserved
loop-k-preserved c =
    let i = c.loop-k.invariant in
    (i.0, carried _ _ _ _ (λ s e. lines_turn _ _ _ s _ c.loop-k.k _ (omega (arith, i.0, c.loop-k-test.true)) e) c.place_line.ensures ∙ i.1)

pub returns : goal.returns
returns c =
    let i = c.loop-k.invariant in
    sym (kept _ _ (lines_done c.args.file.bytes.now c.args.file.head (seen c.loop-k.out) c.args.slate c.loop-k.k (omega (arith, i.0, c.loop-k-test.false)))) ∙ i.1
