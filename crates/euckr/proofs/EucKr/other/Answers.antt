-- `EucKr::other` meets its contract.
use native.Mathlib.Omega.{arith}
use Rattle.weights.specs.Weights.{term}
use Rattle.pairs.specs.Pairs.{released_of}
use Rattle.pairs.specs.Sums.{sum_read}
use Rattle.euckr.specs.Scoring.{other_of}
use Rattle.euckr.proofs.EucKr.other.Goals as goal

pub returns : goal.returns
unfolding other_of
returns c = let s = c in rw (c.released.ensures, sum_read (released_of s.args.self.held) s.args.own term term s.requires.small_held s.requires.own_bound (omega arith))
