-- `EucKr::around_hangul` meets its contract.
use Rattle.euckr.specs.Ways.{around_fits, around_read}
use Rattle.euckr.proofs.EucKr.around_hangul.Goals as goal

pub overflow_add-result-2 : goal.overflow_add-result-2
overflow_add-result-2 c = let s = c in rw (c.released.ensures, c.hangul_after.ensures, c.of_word.ensures) (around_fits s.args.w s.requires.small_scale s.args.self s.requires.small_held)

pub returns : goal.returns
returns c = let s = c in rw (c.released.ensures, c.hangul_after.ensures, c.of_word.ensures) (around_read s.args.w s.requires.small_scale s.args.self s.requires.small_held)
