-- `reason` meets its contract.
use Rattle.names.specs.Names.{reason_name}
use Rattle.names.proofs.reason.Goals as goal

pub returns-in-Class255 : goal.returns-in-Class255
unfolding reason_name
returns-in-Class255 c = rw c.in-Class255.is c.word.ensures

pub returns-in-BadByte : goal.returns-in-BadByte
unfolding reason_name
returns-in-BadByte c = rw c.in-BadByte.is c.word-in-BadByte.ensures

pub returns-in-BadSecondByte : goal.returns-in-BadSecondByte
unfolding reason_name
returns-in-BadSecondByte c = rw c.in-BadSecondByte.is c.word-in-BadSecondByte.ensures

pub returns-in-BrokenEscape : goal.returns-in-BrokenEscape
unfolding reason_name
returns-in-BrokenEscape c = rw c.in-BrokenEscape.is c.word-in-BrokenEscape.ensures

pub returns-in-CutAtClose : goal.returns-in-CutAtClose
unfolding reason_name
returns-in-CutAtClose c = rw c.in-CutAtClose.is c.word-in-CutAtClose.ensures

pub returns-in-NotInSlate : goal.returns-in-NotInSlate
unfolding reason_name
returns-in-NotInSlate c = rw c.in-NotInSlate.is c.word-in-NotInSlate.ensures
