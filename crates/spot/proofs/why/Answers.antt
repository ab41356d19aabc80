-- `why` meets its contract.
use Rattle.std.proofs.Common.{ap, ◌∙◌, arith}
use Rattle.names.specs.NamesLaws.{reason_name_lem}
use Rattle.scribe.specs.Lent.{seen}
use Rattle.scribe.specs.LentLaws.{seen_text}
use Rattle.spot.specs.SpotLaws.{text_stands}
use Rattle.spot.proofs.why.Goals as goal

pub returns : goal.returns
returns c = rw (c.as_slice.ensures, text_stands _ (reason_name_lem c.args.reason) (omega arith) (ap seen c.new-text.ensures) (ap seen c.reason.ensures ∙ seen_text c.new-text.result _)) at c.in_words.ensures
