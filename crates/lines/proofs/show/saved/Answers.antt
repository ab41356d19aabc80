-- `saved` meets its contract.
use Rattle.std.proofs.Common.{ap, ◌∙◌, rules}
use Rattle.scribe.specs.Lent.{with_text}
use Rattle.scribe.specs.LentLaws.{with_both}
use Rattle.lines.specs.ShowLaws.{none_saved, two_saved}
use Rattle.lines.proofs.show.saved.Goals as goal

pub returns-in-0 : goal.returns-in-0
returns-in-0 c = c.byte.ensures ∙ ap (with_text _) (none_saved c.args.context _ c.count.ensures c.in-0.is)

pub returns-in_default : goal.returns-in_default
returns-in_default c = with_both _ _ _ c.hex-in_default.ensures c.hex-in_default-2.ensures ∙ ap (with_text _) (two_saved c.args.context _ c.count.ensures (search rules) (search rules))
