-- A command that was read stands whole in the bytes.
use Rattle.std.specs.Prelude.{◌≡◌, List, ℕ, ◌+◌, ◌-◌, ◌≤◌, eqb, ltb, length}
use Rattle.std.proofs.Common.{sym, arith}
use Rattle.std.proofs.Math.Path.{subst}
use Rattle.std.proofs.Math.ListN.{get_or}
use borrow.Author.Tests.{ltb-false}
use Rattle.laws.specs.Tests.{either}
use Rattle.reader.specs.Command.{start_read, chunk_of, feed_read, read_of}
use Rattle.reader.specs.Little.{little_at}
use Rattle.reader.specs.declared.command.Command.{Command}
use Rattle.reader.specs.declared.command.Command.TheVariants.{Start, Feed, Show, Lend, More, Bad}

-- the bytes of a command are among n
abbrev pub Room : ℕ → Command → Type 0
Room n (Start b) = 3 ≤ n
Room n (Feed last k) = 6 + k ≤ n
Room n Show = 1 ≤ n
Room n Lend = 1 ≤ n
Room n (More k) = 0 ≤ n
Room n Bad = 0 ≤ n

module _ (xs : List ℕ) where
  start_room : Room (length xs) (start_read xs)
  unfolding start_read
  start_room = either (Room (length xs)) (ltb (length xs) 3) (λ e. omega arith) (λ e. ltb-false (length xs) 3 e)

  feed_room : Room (length xs) (feed_read xs)
  unfolding feed_read chunk_of
  feed_room =
      let n = little_at 4 xs 2 in
      either
      (Room (length xs))
      (ltb (length xs) 6)
      (λ e. omega arith)
      (λ e. either
      (Room (length xs))
      (ltb 1 (get_or xs 1 0))
      (λ f. omega arith)
      (λ f. either
      (Room (length xs))
      (ltb 65536 n)
      (λ g. omega arith)
      (λ g. either (Room (length xs)) (ltb (length xs - 6) n) (λ h. omega arith) (λ h. omega (arith, ltb-false (length xs) 6 e, ltb-false (length xs - 6) n h)))))

  pub room : (c : Command) → c ≡ read_of xs → Room (length xs) c
  unfolding read_of
  room c e =
      let P = Room (length xs) in
      let b = get_or xs 0 0 in
      subst
      P
      (sym e)
      (either
      P
      (ltb (length xs) 1)
      (λ f. omega arith)
      (λ f. either
      P
      (eqb b 0x53)
      (λ g. start_room)
      (λ g. either
      P
      (eqb b 0x46)
      (λ h. feed_room)
      (λ h. either P (eqb b 0x51) (λ i. ltb-false (length xs) 1 f) (λ i. either P (eqb b 0x54) (λ j. ltb-false (length xs) 1 f) (λ j. omega arith))))))
