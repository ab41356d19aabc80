-- `Verdict::dropped` meets its contract.
use Rattle.std.proofs.Common.{sym, ap}
use Rattle.laws.specs.declared.Reason.{Reason}
use Rattle.tally.specs.Counts.{dropped_of}
use Rattle.tally.proofs.Verdict.dropped.Goals as goal

pub returns-in-Class255 : goal.returns-in-Class255
unfolding dropped_of
returns-in-Class255 c = sym (ap (λ (d : Reason). dropped_of d c.args.at) c.in-Class255.is)

pub returns-in-BadByte : goal.returns-in-BadByte
unfolding dropped_of
returns-in-BadByte c = sym (ap (λ (d : Reason). dropped_of d c.args.at) c.in-BadByte.is)

pub returns-in-BadSecondByte : goal.returns-in-BadSecondByte
unfolding dropped_of
returns-in-BadSecondByte c = sym (ap (λ (d : Reason). dropped_of d c.args.at) c.in-BadSecondByte.is)

pub returns-in-BrokenEscape : goal.returns-in-BrokenEscape
unfolding dropped_of
returns-in-BrokenEscape c = sym (ap (λ (d : Reason). dropped_of d c.args.at) c.in-BrokenEscape.is)

pub returns-in-CutAtClose : goal.returns-in-CutAtClose
unfolding dropped_of
returns-in-CutAtClose c = sym (ap (λ (d : Reason). dropped_of d c.args.at) c.in-CutAtClose.is)

pub returns-in-NotInSlate : goal.returns-in-NotInSlate
unfolding dropped_of
returns-in-NotInSlate c = sym (ap (λ (d : Reason). dropped_of d c.args.at) c.in-NotInSlate.is)
