-- `extra` meets its contract.
use borrow.Author.Rules.{rules}
use Rattle.euckr.specs.Scoring.{extra_of}
use Rattle.euckr.proofs.extra.Goals as goal

pub returns-clause-value : goal.returns-clause-value
unfolding extra_of
returns-clause-value c = search rules
