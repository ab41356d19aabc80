-- `word` meets its contract.
use Rattle.std.proofs.Common.{rules, ap, ◌∙◌}
use Rattle.scribe.specs.Lent.{seen}
use Rattle.scribe.specs.LentLaws.{seen_text}
use Rattle.scribe.proofs.page.word.Goals as goal

pub returns : goal.returns
returns c = search (rules, c.end.ensures, ap seen c.word.ensures ∙ seen_text c.new-page.result c.args.text.now, ap seen c.new-page.ensures)
