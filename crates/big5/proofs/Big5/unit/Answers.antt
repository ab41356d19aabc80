-- `Big5::unit` meets its contract.
use Rattle.pairs.specs.Sums.{read}
use Rattle.big5.specs.Ways.{hanzi_small}
use Rattle.big5.proofs.Big5.unit.Goals as goal

pub hanzi-requires-clause-own_bound : goal.hanzi-requires-clause-own_bound
hanzi-requires-clause-own_bound c =
    let s = c.args in
    rw (read c.of_hanzi.result c.of_hanzi.type_inv, c.of_hanzi.ensures) (hanzi_small s.w c.requires.small_scale s.self.prev_byte)
