-- The front end: document 01's four rules.
use Rattle.std.specs.Prelude.{Bool, true, cond, List, [], ◌++◌, ℕ, ◌+◌, ◌-◌, ltb, length, drop}
use Rattle.context.specs.Context.{bytes_of, context_of, push_of}
use Rattle.context.specs.Head.{scan_of, non_ascii_count}
use Rattle.context.specs.declared.Context.{Context}
use Rattle.context.specs.declared.Scanned.{Scanned}
use Rattle.context.specs.declared.Scanned.TheVariants as scanned
use Rattle.state.specs.State.{triggered}
use Rattle.state.specs.declared.front.Front.{Front}
use Rattle.detector.specs.declared.front.Trigger.{Trigger}
use Rattle.detector.specs.declared.front.Trigger.TheVariants.{Earlier, Escape, NonAscii, Nowhere}

-- ---- 1. before any trigger, the scan stops at the first byte that is 0x1B or non-ASCII
abbrev pub found_as : Scanned → Trigger
found_as (scanned.Escape n) = Escape n
found_as (scanned.NonAscii n) = NonAscii n
found_as scanned.End = Nowhere

unfoldable pub trigger_of : Front → List ℕ → Trigger
trigger_of f xs = cond (triggered f) Earlier (found_as (scan_of xs))

-- ---- 1 to 3. which bytes reach the places: none; or bytes of the saved context, not as last, and then bytes of the chunk
pub data Reaches : Type 0 where
  none : Reaches
  some : (before part : List ℕ) → Reaches

-- at offset 0 or 1, the saved context and the whole chunk; at 2 or more, the chunk from offset minus 2
unfoldable pub reaches_at : Context → List ℕ → ℕ → Reaches
reaches_at c xs n = cond (ltb n 2) (some (bytes_of c) xs) (some [] (drop (n - 2) xs))

-- after a trigger all chunks whole
unfoldable pub reaches_by : Context → List ℕ → Trigger → Reaches
reaches_by c xs Earlier = some [] xs
reaches_by c xs (Escape n) = reaches_at c xs n
reaches_by c xs (NonAscii n) = reaches_at c xs n
reaches_by c xs Nowhere = none

abbrev pub reaches_of : Front → List ℕ → Reaches
reaches_of f xs = reaches_by f.context xs (trigger_of f xs)

abbrev pub bytes_in : Reaches → List ℕ
bytes_in none = []
bytes_in (some before part) = before ++ part

-- ---- 1 and 2. the saved context: the chunk goes into it; or it is emptied; or it stays as it was
unfoldable pub context_at : Context → ℕ → Context
context_at c n = cond (ltb n 2) (context_of []) c

unfoldable pub context_by : Context → List ℕ → Trigger → Context
context_by c xs Earlier = c
context_by c xs (Escape n) = context_at c n
context_by c xs (NonAscii n) = context_at c n
context_by c xs Nowhere = push_of c xs

-- ---- 3. the escape flag is set only when 0x1B was the trigger
unfoldable pub esc_by : Bool → Trigger → Bool
esc_by e Earlier = e
esc_by e (Escape n) = true
esc_by e (NonAscii n) = e
esc_by e Nowhere = e

-- ---- the bytes from the end of the head on: those from the trigger on, and after it all
unfoldable pub body_by : ℕ → List ℕ → Trigger → ℕ
body_by n xs Earlier = n + length xs
body_by n xs (Escape at) = n + (length xs - at)
body_by n xs (NonAscii at) = n + (length xs - at)
body_by n xs Nowhere = n

-- ---- 4. the non-ASCII count grows by the bytes at or above 0x80 that are fed
abbrev pub counted : Front → List ℕ → Front
counted f part =
    record { context = f.context; esc_seen = f.esc_seen; non_ascii_seen = f.non_ascii_seen + non_ascii_count part; closed = f.closed; bytes = f.bytes; body = f.body }

abbrev pub uncounted : Front → List ℕ → Bool → Trigger → Front
uncounted f xs last g =
    record { context = context_by f.context xs g; esc_seen = esc_by f.esc_seen g; non_ascii_seen = f.non_ascii_seen; closed = last; bytes = f.bytes + length xs; body = body_by f.body xs g }

-- the front after a chunk
abbrev pub front_of : Front → List ℕ → Bool → Front
front_of f xs last = counted (uncounted f xs last (trigger_of f xs)) (bytes_in (reaches_of f xs))
