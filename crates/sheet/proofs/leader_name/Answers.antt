-- `leader_name` meets its contract.
use Rattle.sheet.specs.Sheet.{leader_name}
use Rattle.sheet.proofs.leader_name.Goals as goal

pub returns-in-Ascii : goal.returns-in-Ascii
unfolding leader_name
returns-in-Ascii c = rw c.in-Ascii.is c.word.ensures

pub returns-in-None : goal.returns-in-None
unfolding leader_name
returns-in-None c = rw c.in-None.is c.word-in-None.ensures

pub returns-in-Place : goal.returns-in-Place
unfolding leader_name
returns-in-Place c = rw c.in-Place.is c.place.ensures
