-- `EucKr::hanja` meets its contract.
use Rattle.euckr.specs.Scoring.{hanja_of}
use Rattle.euckr.specs.Ways.{hanja_part3, hanja_fits, hanja_read}
use Rattle.euckr.proofs.EucKr.hanja.Goals as goal

pub overflow_add-result-2 : goal.overflow_add-result-2
overflow_add-result-2 c = let s = c in rw (c.released.ensures, c.hanja_after.ensures) (hanja_part3 s.args.w s.requires.small_scale s.args.self s.requires.small_held s.args.own s.requires.own_bound)

pub overflow_add-result-3 : goal.overflow_add-result-3
overflow_add-result-3 c = let s = c in rw (c.released.ensures, c.hanja_after.ensures, c.of_word.ensures) (hanja_fits s.args.w s.requires.small_scale s.args.self s.requires.small_held s.args.own s.requires.own_bound)

pub returns : goal.returns
unfolding hanja_of
returns c = let s = c in rw (c.released.ensures, c.hanja_after.ensures, c.of_word.ensures, hanja_read s.args.w s.requires.small_scale s.args.self s.requires.small_held s.args.own s.requires.own_bound)
