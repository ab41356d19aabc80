-- `EucKr::outer_hangul` meets its contract.
use mathlib.Core.Path.{◌≡◌, sym, ◌∙◌}
use mathlib.Core.Bool.{true, false}
use native.Mathlib.Omega.{arith}
use Rattle.laws.specs.Sizes.{thru64}
use Rattle.weights.specs.Weights.{term}
use Rattle.pairs.specs.Sums.{read}
use Rattle.euckr.specs.Scoring.{holds_of, outer_of}
use Rattle.euckr.specs.Ways.{outer_fits, outer_read}
use Rattle.euckr.proofs.EucKr.outer_hangul.Goals as goal

pub returns-then-holds : goal.returns-then-holds
unfolding outer_of
returns-then-holds c =
    let s = c in
    let g = c.around_hangul-gain in
    let t : holds_of s.args.self ≡ true = sym c.holds.ensures ∙ c.if-holds.true in
    rw (t, read g.result g.type_inv, g.ensures, thru64 s.args.w.outer term s.requires.small_scale.outer (omega arith))

pub overflow_add-result-3 : goal.overflow_add-result-3
overflow_add-result-3 c =
    let s = c in
    rw c.around_hangul-gain.ensures (outer_fits s.args.w s.requires.small_scale s.args.self s.requires.small_held)

pub returns : goal.returns
unfolding outer_of
returns c =
    let s = c in
    let t : holds_of s.args.self ≡ false = sym c.holds.ensures ∙ c.if-holds.false in
    rw (t, c.around_hangul-gain.ensures, outer_read s.args.w s.requires.small_scale s.args.self s.requires.small_held)
