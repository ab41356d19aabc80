-- `decimal` meets its contract.
use Rattle.std.proofs.Common.{ap, ◌∙◌}
use Rattle.scribe.specs.Lent.{with_text}
use Rattle.scribe.specs.TextLaws.{decimal_is}
use Rattle.scribe.proofs.page.Page.decimal.Goals as goal

pub returns : goal.returns
returns c =
    let d = c.decimal-count.ensures in
    c.word.ensures ∙ ap (with_text _) (d.digits ∙ decimal_is _ _ c.ranges.n.fits d.len)
