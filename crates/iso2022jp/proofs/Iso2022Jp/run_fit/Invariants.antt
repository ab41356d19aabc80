-- `Iso2022Jp::run_fit` meets its contract: the loop of `Going`.
use Rattle.std.specs.Prelude.{pos}
use Rattle.laws.specs.Going.{Going}
use Rattle.iso2022jp.specs.Iso2022Jp.{Sound, step_of}
use Rattle.iso2022jp.proofs.Iso2022Jp.run_fit.Given as goal

abbrev pub invariant-loop-i : goal.invariant-loop-i
invariant-loop-i l = Going (step_of l.index) (λ n. Sound) 0 0 l.initial.m l.part l.i l.m (pos 0)
