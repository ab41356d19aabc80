-- The bytes one after the other, in a loop: one turn at i, and the end.
use Rattle.std.specs.Prelude.{◌≡◌, List, ℕ, ◌+◌, ◌≤◌, ◌<◌, length, get_or, drop}
use Rattle.std.proofs.Common.{add-one, drop_of_length-le, drop-cons}
use Rattle.digest.specs.Digest.{with_byte, with_bytes}
use Rattle.digest.specs.declared.Digest.{Digest}

pub bytes_turn : (d e : Digest) (xs : List ℕ) (i : ℕ) → i < length xs → e ≡ with_byte d (get_or xs i 0) → with_bytes e (drop (i + 1) xs) ≡ with_bytes d (drop i xs)
bytes_turn d e xs i h p = rw (drop-cons xs i 0 h, p, add-one)

pub bytes_done : (d : Digest) (xs : List ℕ) (i : ℕ) → length xs ≤ i → with_bytes d (drop i xs) ≡ d
bytes_done d xs i h = rw (drop_of_length-le xs {i = i} h)
