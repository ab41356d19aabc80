-- `counted` meets its contract.
use native.Mathlib.Omega.{arith}
use Rattle.laws.specs.Lists.{count_most}
use Rattle.octets.specs.Octets.{non_ascii}
use Rattle.detector.proofs.front.counted.Goals as goal

pub overflow_add-result : goal.overflow_add-result
overflow_add-result c = let s = c in omega (arith, c.count_non_ascii.ensures, count_most non_ascii s.args.part.now, s.requires.seen, s.requires.short)
