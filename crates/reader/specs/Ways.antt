-- One way through the code of a command after the other.
use Rattle.std.specs.Prelude.{◌≡◌, List, ℕ, ◌+◌, ◌-◌, ◌≤◌, ◌<◌, eqb, length, get_or}
use borrow.Author.Tests.{lt-ltb, le-ltb, ne_eqb}
use Rattle.reader.specs.Command.{start_read, chunk_of, feed_read, read_of}
use Rattle.reader.specs.Little.{little_at}
use Rattle.reader.specs.declared.command.Command.TheVariants.{Feed, Show, Lend, More, Bad}

module _ (xs : List ℕ) where
  pub feed_short : length xs < 6 → More 6 ≡ feed_read xs
  unfolding feed_read
  feed_short h = rw (lt-ltb (length xs) 6 h)

  pub feed_bad : 6 ≤ length xs → 1 < get_or xs 1 0 → Bad ≡ feed_read xs
  unfolding feed_read
  feed_bad h l = rw (le-ltb (length xs) 6 h, lt-ltb 1 (get_or xs 1 0) l)

  module _ (n : ℕ) (h : 6 ≤ length xs) (l : get_or xs 1 0 ≤ 1) (e : n ≡ little_at 4 xs 2) where
    is_chunk : chunk_of (eqb (get_or xs 1 0) 1) n (length xs - 6) ≡ feed_read xs
    unfolding feed_read
    is_chunk = rw (e, le-ltb (length xs) 6 h, le-ltb 1 (get_or xs 1 0) l)

    pub feed_long : 65536 < n → Bad ≡ feed_read xs
    unfolding chunk_of
    feed_long b = rw (← is_chunk, lt-ltb 65536 n b)

    pub feed_more : n ≤ 65536 → length xs - 6 < n → More (6 + n) ≡ feed_read xs
    unfolding chunk_of
    feed_more b m = rw (← is_chunk, le-ltb 65536 n b, lt-ltb (length xs - 6) n m)

    pub feed_whole : n ≤ 65536 → n ≤ length xs - 6 → Feed (eqb (get_or xs 1 0) 1) n ≡ feed_read xs
    unfolding chunk_of
    feed_whole b m = rw (← is_chunk, le-ltb 65536 n b, le-ltb (length xs - 6) n m)

  pub read_none : length xs < 1 → More 1 ≡ read_of xs
  unfolding read_of
  read_none h = rw (lt-ltb (length xs) 1 h)

  module _ (h : 1 ≤ length xs) where
    pub read_start : get_or xs 0 0 ≡ 83 → start_read xs ≡ read_of xs
    unfolding read_of
    read_start e = rw (le-ltb (length xs) 1 h, e)

    pub read_feed : get_or xs 0 0 ≡ 70 → feed_read xs ≡ read_of xs
    unfolding read_of
    read_feed e = rw (le-ltb (length xs) 1 h, e)

    pub read_show : get_or xs 0 0 ≡ 81 → Show ≡ read_of xs
    unfolding read_of
    read_show e = rw (le-ltb (length xs) 1 h, e)

    pub read_lend : get_or xs 0 0 ≡ 84 → Lend ≡ read_of xs
    unfolding read_of
    read_lend e = rw (le-ltb (length xs) 1 h, e)

    pub read_bad : (get_or xs 0 0 ≡ 83 → ⊥) → (get_or xs 0 0 ≡ 70 → ⊥) → (get_or xs 0 0 ≡ 81 → ⊥) → (get_or xs 0 0 ≡ 84 → ⊥) → Bad ≡ read_of xs
    unfolding read_of
    read_bad s f q t =
        rw (le-ltb (length xs) 1 h, ne_eqb (get_or xs 0 0) 83 s, ne_eqb (get_or xs 0 0) 70 f, ne_eqb (get_or xs 0 0) 81 q, ne_eqb (get_or xs 0 0) 84 t)
