-- `EucKr::inner_hangul` meets its contract.
use Rattle.euckr.specs.Scoring.{inner_of}
use Rattle.euckr.specs.Ways.{inner_part, inner_fits, inner_read}
use Rattle.euckr.proofs.EucKr.inner_hangul.Goals as goal

pub overflow_add-result-2 : goal.overflow_add-result-2
overflow_add-result-2 c = let s = c in rw c.around_hangul.ensures (inner_part s.args.w s.requires.small_scale s.args.self s.requires.small_held s.args.extra s.requires.extra_bound)

pub overflow_add-result-3 : goal.overflow_add-result-3
overflow_add-result-3 c = let s = c in rw c.around_hangul.ensures (inner_fits s.args.w s.requires.small_scale s.args.self s.requires.small_held s.args.extra s.requires.extra_bound)

pub returns : goal.returns
unfolding inner_of
returns c = let s = c in rw (c.around_hangul.ensures, inner_read s.args.w s.requires.small_scale s.args.self s.requires.small_held s.args.extra s.requires.extra_bound)
