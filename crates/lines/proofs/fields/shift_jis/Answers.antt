-- `shift_jis` meets its contract.
use Rattle.lines.specs.Fields.{shift_jis_text}
use Rattle.lines.proofs.fields.shift_jis.Goals as goal

pub returns : goal.returns
unfolding shift_jis_text
returns c = c.hex.ensures
