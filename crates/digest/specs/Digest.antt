-- Two remainders of the bytes so far, and how many they were.
use Rattle.std.specs.Prelude.{List, ℕ, ◌+◌, ◌*◌, ◌%◌, ◌^◌}
use Rattle.std.specs.List.{fold}
use Rattle.digest.specs.declared.Digest.{Digest}

abbrev pub fresh : Digest
fresh = record { first = 1; second = 1; length = 0 }

unfoldable pub with_byte : Digest → ℕ → Digest
with_byte d b =
    record { first = (d.first % 2147483647 * 65599 + (b + 1)) % 2147483647; second = (d.second % 2147483629 * 31337 + (b + 1)) % 2147483629; length = d.length % 2 ^ 32 + 1 }

abbrev pub with_bytes : Digest → List ℕ → Digest
with_bytes d bs = fold with_byte d bs
