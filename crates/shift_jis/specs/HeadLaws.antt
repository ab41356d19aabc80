-- What Shift_JIS forgets: ASCII leaves the record fresh.
use Rattle.std.proofs.Math.Path.{refl, sym}
use Rattle.std.specs.Prelude.{List, ℕ}
use Rattle.std.proofs.Common.{arith}
use borrow.Author.Tests.{ltb-true}
use Rattle.laws.specs.Memory.{Forgets, Quiet}
use Rattle.laws.proofs.Forgets.{forgets}
use Rattle.octets.specs.Octets.{ascii}
use Rattle.shift_jis.specs.ShiftJis.{fresh, step_of}
use Rattle.shift_jis.specs.ShiftJisLaws.{first_low}

module _ (index : List ℕ) where
  pub shift_jis_quiet : Quiet ascii (step_of index) (λ (k : Unit {0}). fresh) (λ k b. k)
  unfolding step_of
  shift_jis_quiet = record { steps = λ k b e. sym (first_low b (omega (arith, ltb-true b 0x80 e))); forgotten = λ k l a b. refl }

  pub shift_jis_forgets : Forgets ascii (step_of index) fresh
  shift_jis_forgets = forgets shift_jis_quiet tt
