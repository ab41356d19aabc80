-- Which entries of a lent index are code points; any other is unmapped.
use Rattle.std.specs.Prelude.{Bool, ◌&&◌, ◌||◌, ℕ}
use Rattle.octets.specs.Octets.{between}

-- planeTwo: whether the index has plane two beside the first
abbrev pub is_mapped : Bool → ℕ → Bool
is_mapped planeTwo entry = between 0x80 0xD7FF entry || (between 0xE000 0xFFFF entry || (planeTwo && between 0x20000 0x2FFFF entry))
