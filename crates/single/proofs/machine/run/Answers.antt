-- `run` meets its contract: one test, then `run_fit` over all of what is lent.
use Rattle.std.proofs.Common.{◌≡◌, sym, ◌∙◌, ℕ, Bool, true, arith, length}
use Rattle.laws.specs.Limit.{room}
use Rattle.single.specs.AnswersLaws.{ran_if_fit, ran_if_unfit}
use Rattle.single.specs.Fit.{Fit, fit_b}
use Rattle.single.specs.FitLaws.{fit_true, marks_whole, pairs_whole, weights_whole}
use Rattle.single.specs.Lent.{Lent}
use Rattle.single.specs.Lists.{lists}
use Rattle.single.proofs.machine.run.Goals as goal

-- where the test was passed, all fits
passed : (t : Lent) {S : Type 0} {tested : Bool} (n : ℕ) {s : Bool} → (tested ≡ true → S) → s ≡ tested → true ≡ fit_b t s n → Fit t S n
passed t n decides p q = fit_true t _ _ n decides (sym (rw p at q))

pub again-requires : goal.again-requires
again-requires g c =
    (passed (lists c.args.lent.now) (length c.args.part.now) (g.met.M.SingleByte.sound.tested room c.args.machine) c.is_sound_for.ensures c.if-is_fit.ensures).sound

pub slice_bounds-run_fit-end : goal.slice_bounds-run_fit-end
slice_bounds-run_fit-end g c =
    let f = passed (lists c.args.lent.now) (length c.args.part.now) (g.met.M.SingleByte.sound.tested room c.args.machine) c.is_sound_for.ensures c.if-is_fit.ensures in
    omega (arith, f.sized.marks_length)

pub slice_bounds-run_fit-end-then-is_fit : goal.slice_bounds-run_fit-end-then-is_fit
slice_bounds-run_fit-end-then-is_fit g c =
    let f = passed (lists c.args.lent.now) (length c.args.part.now) (g.met.M.SingleByte.sound.tested room c.args.machine) c.is_sound_for.ensures c.if-is_fit.ensures in
    omega (arith, f.sized.pairs_length)

pub slice_bounds-run_fit-end-then-is_fit-2 : goal.slice_bounds-run_fit-end-then-is_fit-2
slice_bounds-run_fit-end-then-is_fit-2 g c =
    let f = passed (lists c.args.lent.now) (length c.args.part.now) (g.met.M.SingleByte.sound.tested room c.args.machine) c.is_sound_for.ensures c.if-is_fit.ensures in
    omega (arith, f.sized.weights_length)

pub run_fit-requires : goal.run_fit-requires
run_fit-requires g c =
    let t = lists c.args.lent.now in
    let f = passed t (length c.args.part.now) (g.met.M.SingleByte.sound.tested room c.args.machine) c.is_sound_for.ensures c.if-is_fit.ensures in
    rw (c.again.ensures, marks_whole t f.sized, pairs_whole t f.sized, weights_whole t f.sized) f

pub returns-then-is_fit-clause-value : goal.returns-then-is_fit-clause-value
returns-then-is_fit-clause-value g c =
    let t = lists c.args.lent.now in
    let f = passed t (length c.args.part.now) (g.met.M.SingleByte.sound.tested room c.args.machine) c.is_sound_for.ensures c.if-is_fit.ensures in
    let e = rw (c.again.ensures, marks_whole t f.sized, pairs_whole t f.sized, weights_whole t f.sized) at c.run_fit.ensures.value in
    e ∙ sym (ran_if_fit g.M.SingleByte.step_of (g.M.SingleByte.sound_b room) t c.args.machine c.args.part.now (sym (rw c.is_sound_for.ensures at c.if-is_fit.ensures)))

pub returns-clause-value : goal.returns-clause-value
returns-clause-value g c =
    sym (ran_if_unfit g.M.SingleByte.step_of (g.M.SingleByte.sound_b room) (lists c.args.lent.now) c.args.machine c.args.part.now (sym (rw c.is_sound_for.ensures at c.if-is_fit.ensures)))
