-- `places` meets its contract.
use Rattle.std.proofs.Common.{sym, ◌∙◌, arith}
use Rattle.scribe.specs.Lent.{seen}
use Rattle.scribe.specs.LentLaws.{carried, kept}
use Rattle.lines.specs.ShowLaws.{places_turn, places_done}
use Rattle.lines.proofs.show.places.Goals as goal

pub loop-p-preserved : goal.loop-p-preserved
loop-p-preserved c =
    let i = c.loop-p.invariant in
    (i.0, carried _ _ _ _ (λ s e. places_turn _ s _ c.loop-p.p-index _ (omega (arith, i.0, c.loop-p-test.true)) e) c.place.ensures ∙ i.1)

pub returns : goal.returns
returns c =
    let i = c.loop-p.invariant in
    sym (kept _ _ (places_done (seen c.loop-p.out) c.args.slate c.loop-p.p-index (omega (arith, i.0, c.loop-p-test.false)))) ∙ i.1
