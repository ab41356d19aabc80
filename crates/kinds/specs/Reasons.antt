-- For which reasons a byte, and the end of the stream, drop a machine out.
use Rattle.std.specs.Prelude.{Bool, false, cond, not, ◌||◌, ℕ, eqb}
use Rattle.laws.specs.declared.Reason.{Reason}
use Rattle.laws.specs.declared.Reason.TheVariants.{Class255, BadByte, BadSecondByte, BrokenEscape, CutAtClose, NotInSlate}
use Rattle.kinds.specs.Kinds.{is_single}
use Rattle.kinds.specs.Sound.{takes_space}
use Rattle.kinds.specs.declared.machine.Machine.{Machine}

-- a byte, by the number of the place: class 255 the single-byte machines, a bad byte the decoders, and so on
abbrev pub byte_reason : ℕ → Reason → Bool
byte_reason k Class255 = is_single k
byte_reason k BadByte = not (is_single k)
byte_reason k BadSecondByte = eqb k 2 || eqb k 3
byte_reason k BrokenEscape = eqb k 1
byte_reason k CutAtClose = false
byte_reason k NotInSlate = false

-- the end of the stream: a space of class 255, or a cut
abbrev pub end_reason : Machine → Reason
end_reason m = cond (takes_space m) Class255 CutAtClose
