-- `decoder_state` meets its contract.
use Rattle.lines.specs.Names.{state_name}
use Rattle.lines.proofs.terms.decoder_state.Goals as goal

pub returns-in-Ascii : goal.returns-in-Ascii
unfolding state_name
returns-in-Ascii c = rw c.in-Ascii.is c.word.ensures

pub returns-in-Roman : goal.returns-in-Roman
unfolding state_name
returns-in-Roman c = rw c.in-Roman.is c.word-in-Roman.ensures

pub returns-in-Katakana : goal.returns-in-Katakana
unfolding state_name
returns-in-Katakana c = rw c.in-Katakana.is c.word-in-Katakana.ensures

pub returns-in-LeadByte : goal.returns-in-LeadByte
unfolding state_name
returns-in-LeadByte c = rw c.in-LeadByte.is c.word-in-LeadByte.ensures

pub returns-in-TrailByte : goal.returns-in-TrailByte
unfolding state_name
returns-in-TrailByte c = rw c.in-TrailByte.is c.word-in-TrailByte.ensures

pub returns-in-EscapeStart : goal.returns-in-EscapeStart
unfolding state_name
returns-in-EscapeStart c = rw c.in-EscapeStart.is c.word-in-EscapeStart.ensures

pub returns-in-Escape : goal.returns-in-Escape
unfolding state_name
returns-in-Escape c = rw c.in-Escape.is c.word-in-Escape.ensures
