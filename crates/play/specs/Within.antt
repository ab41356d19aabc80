-- Where the bytes at hand stand in a window of n bytes.
use Rattle.std.specs.Prelude.{Bool, true, false, ◌≡◌, ℕ, ◌+◌, ◌≤◌}
use Rattle.std.proofs.Common.{arith}
use Rattle.play.specs.declared.input.Span.{Span}

pub record Within (n : ℕ) (s : Span) : Type 0 where
  pub begun : s.at ≤ s.end
  pub ended : s.end ≤ n

-- besides, that many bytes are at hand where the input was long enough
pub record Filled (n want : ℕ) (s : Span) : Type 0 where
  pub within : Within n s
  pub there : s.whole ≡ true → s.at + want ≤ s.end

pub unlike : {P : Type 0} {b : Bool} → b ≡ true → b ≡ false → P
unlike p q = absurd (let z : ◌≡◌ {A = ℕ} 0 1 = cc in omega arith)
