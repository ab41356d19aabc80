-- `output_state` meets its contract.
use Rattle.lines.specs.Names.{out_name}
use Rattle.lines.proofs.terms.output_state.Goals as goal

pub returns-in-Ascii : goal.returns-in-Ascii
unfolding out_name
returns-in-Ascii c = rw c.in-Ascii.is c.word.ensures

pub returns-in-Roman : goal.returns-in-Roman
unfolding out_name
returns-in-Roman c = rw c.in-Roman.is c.word-in-Roman.ensures

pub returns-in-Katakana : goal.returns-in-Katakana
unfolding out_name
returns-in-Katakana c = rw c.in-Katakana.is c.word-in-Katakana.ensures

pub returns-in-LeadByte : goal.returns-in-LeadByte
unfolding out_name
returns-in-LeadByte c = rw c.in-LeadByte.is c.word-in-LeadByte.ensures
