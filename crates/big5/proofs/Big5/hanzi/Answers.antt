-- `Big5::hanzi` meets its contract.
use mathlib.Core.Path.{◌≡◌, sym, ◌∙◌}
use mathlib.Core.Bool.{true, false}
use native.Mathlib.Omega.{arith}
use Rattle.laws.specs.Sizes.{thru64}
use Rattle.weights.specs.Weights.{term}
use Rattle.big5.specs.Scoring.{hanzi_of, holds_of}
use Rattle.big5.specs.Ways.{base_read, hanzi_fits, hanzi_read}
use Rattle.big5.proofs.Big5.hanzi.Goals as goal

pub returns-then-holds : goal.returns-then-holds
unfolding hanzi_of
returns-then-holds c =
    let s = c in
    let t : holds_of s.args.self ≡ true = sym c.holds.ensures ∙ c.if-holds.true in
    rw (c.released.ensures, c.beside.ensures, t, base_read s.args.w s.requires.small_scale s.args.self s.requires.small_held, thru64 s.args.own term s.requires.own_bound (omega arith))

pub overflow_add-result : goal.overflow_add-result
overflow_add-result c = let s = c in rw (c.released.ensures, c.beside.ensures) (hanzi_fits s.args.w s.requires.small_scale s.args.self s.requires.small_held s.args.own s.requires.own_bound)

pub returns : goal.returns
unfolding hanzi_of
returns c =
    let s = c in
    let t : holds_of s.args.self ≡ false = sym c.holds.ensures ∙ c.if-holds.false in
    rw (c.released.ensures, c.beside.ensures, t, hanzi_read s.args.w s.requires.small_scale s.args.self s.requires.small_held s.args.own s.requires.own_bound)
