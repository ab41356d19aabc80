-- `case` meets its contract.
use Rattle.lines.specs.Names.{case_name}
use Rattle.lines.proofs.terms.case.Goals as goal

pub returns-in-Space : goal.returns-in-Space
unfolding case_name
returns-in-Space c = rw c.in-Space.is c.word.ensures

pub returns-in-Upper : goal.returns-in-Upper
unfolding case_name
returns-in-Upper c = rw c.in-Upper.is c.word-in-Upper.ensures

pub returns-in-Lower : goal.returns-in-Lower
unfolding case_name
returns-in-Lower c = rw c.in-Lower.is c.word-in-Lower.ensures

pub returns-in-AllCaps : goal.returns-in-AllCaps
unfolding case_name
returns-in-AllCaps c = rw c.in-AllCaps.is c.word-in-AllCaps.ensures
