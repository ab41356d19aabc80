-- `Big5::unmapped` meets its contract.
use Rattle.big5.specs.Scoring.{unmapped_of}
use Rattle.big5.specs.Ways.{unmapped_fits, unmapped_read}
use Rattle.big5.proofs.Big5.unmapped.Goals as goal

pub overflow_add-result-2 : goal.overflow_add-result-2
overflow_add-result-2 c = let s = c in rw (c.released.ensures, c.beside.ensures) (unmapped_fits s.args.w s.requires.small_scale s.args.self s.requires.small_held)

pub returns : goal.returns
unfolding unmapped_of
returns c = let s = c in rw (c.released.ensures, c.beside.ensures, unmapped_read s.args.w s.requires.small_scale s.args.self s.requires.small_held)
