-- The code's own steps at the front: an offset or a number of bytes for what reaches the places, and sums that do not wrap. No
-- public contract cites them.
use Rattle.std.specs.Prelude.{◌≡◌, List, [], ◌∷◌, ℕ, ◌≤◌, length, take, drop}
use Rattle.laws.specs.Limit.{limit}
use Rattle.context.specs.Context.{bytes_of}
use Rattle.context.specs.declared.Context.{Context}
use Rattle.detector.specs.Front.{Reaches, none, some, reaches_at, reaches_by}
use Rattle.detector.specs.declared.front.Due.{Due}
use Rattle.detector.specs.declared.front.Due.TheVariants.{Nothing, Part, After}
use Rattle.state.specs.declared.front.Front.{Front}
use Rattle.detector.specs.declared.front.Trigger.{Trigger}
use Rattle.detector.specs.declared.front.Trigger.TheVariants.{Earlier, Escape, NonAscii, Nowhere}

-- ---- the code's answer: an offset, or how many bytes of the context
unfoldable pub due_as : Context → List ℕ → Due → Reaches
due_as c xs Nothing = none
due_as c xs (Part n) = some [] (drop n xs)
due_as c xs (After n) = some (take n (c.first ∷ c.second ∷ [])) xs

abbrev pub DueAt : Context → ℕ → Due → Type 0
DueAt c n d = (xs : List ℕ) → due_as c xs d ≡ reaches_at c xs n

abbrev pub DueBy : Context → Trigger → Due → Type 0
DueBy c g d = (xs : List ℕ) → due_as c xs d ≡ reaches_by c xs g

-- where the trigger stands in the chunk
abbrev pub trigger_offset : Trigger → ℕ
trigger_offset Earlier = 0
trigger_offset (Escape n) = n
trigger_offset (NonAscii n) = n
trigger_offset Nowhere = 0

-- it stands in this chunk
abbrev pub Here : Trigger → Type 0
Here Earlier = ⊥
Here (Escape n) = Unit {0}
Here (NonAscii n) = Unit {0}
Here Nowhere = ⊥

-- the code's offset and number are within the chunk and the context
abbrev pub WithinAt : Context → ℕ → Due → Type 0
WithinAt c at Nothing = Unit {0}
WithinAt c at (Part n) = n ≤ at
WithinAt c at (After k) = k ≡ length (bytes_of c)

abbrev pub WithinBy : Context → Trigger → Due → Type 0
WithinBy c g Nothing = Unit {0}
WithinBy c g (Part n) = n ≤ trigger_offset g
WithinBy c g (After k) = (k ≡ length (bytes_of c)) × Here g

-- counts that so many bytes more do not make wrap
pub record Roomy (f : Front) (bytes : ℕ) : Type 0 where
  pub accepted : f.bytes ≤ limit
  pub seen : f.non_ascii_seen ≤ limit
  pub bodied : f.body ≤ limit
  pub short : bytes ≤ limit
