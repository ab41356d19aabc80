-- `EucKr::letter` meets its contract.
use Rattle.pairs.specs.Sums.{read}
use Rattle.euckr.specs.Scoring.{letter_of}
use Rattle.euckr.proofs.EucKr.letter.Goals as goal

pub returns : goal.returns
unfolding letter_of
returns c = let g = c.letter_after-gain in rw (read g.result g.type_inv, g.ensures)
