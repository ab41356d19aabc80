-- What UTF-8 forgets: ASCII leaves the record fresh.
use Rattle.std.specs.Prelude.{refl}
use Rattle.std.proofs.Common.{sym, ltb-true}
use Rattle.laws.specs.Memory.{Forgets, Quiet}
use Rattle.laws.proofs.Forgets.{forgets}
use Rattle.octets.specs.Octets.{ascii}
use Rattle.utf8.specs.Utf8.{fresh, step_of}
use Rattle.utf8.specs.Utf8Laws.{lead_ascii}

pub utf8_quiet : Quiet ascii step_of (λ (k : Unit {0}). fresh) (λ k b. k)
unfolding step_of
utf8_quiet = record { steps = λ k b e. sym (lead_ascii b (ltb-true b 0x80 e)); forgotten = λ k l a b. refl }

pub utf8_forgets : Forgets ascii step_of fresh
utf8_forgets = forgets utf8_quiet tt
