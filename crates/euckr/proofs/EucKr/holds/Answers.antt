-- `EucKr::holds` meets its contract.
use Rattle.euckr.specs.Scoring.{holds_of}
use Rattle.euckr.proofs.EucKr.holds.Goals as goal

pub returns-in-AsciiLetter : goal.returns-in-AsciiLetter
unfolding holds_of
returns-in-AsciiLetter c = rw c.in-AsciiLetter.is c.is_held_lead.ensures

pub returns-in-Hangul : goal.returns-in-Hangul
unfolding holds_of
returns-in-Hangul c = rw c.in-Hangul.is

pub returns-in-Hanja : goal.returns-in-Hanja
unfolding holds_of
returns-in-Hanja c = rw c.in-Hanja.is c.is_held_lead-in-Hanja.ensures

pub returns-in-Other : goal.returns-in-Other
unfolding holds_of
returns-in-Other c = rw c.in-Other.is c.is_held_lead-in-Other.ensures
