-- `ShiftJis::run_fit` meets its contract: the loop of `Going`.
use Rattle.std.specs.Prelude.{pos}
use Rattle.laws.specs.Going.{Going}
use Rattle.shift_jis.specs.ShiftJis.{Sound, step_of}
use Rattle.shift_jis.proofs.ShiftJis.run_fit.Given as goal

abbrev pub invariant-loop-i : goal.invariant-loop-i
invariant-loop-i l = Going (step_of l.index) (λ n. Sound) 0 0 l.initial.m l.part l.i l.m (pos 0)
