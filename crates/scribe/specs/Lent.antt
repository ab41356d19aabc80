-- A page and the buffer that was lent to it: the reference stays the same one, whatever is written.
use Rattle.std.specs.Prelude.{List, ℕ}
use Rattle.std.specs.Borrow.{MutBor}
use Rattle.scribe.specs.declared.page.Page.{Page}
use Rattle.scribe.specs.Page.{Page as Sheet, page, onto}

abbrev bytes_of : Sheet → List ℕ
bytes_of (page xs at) = xs

abbrev place_of : Sheet → ℕ
place_of (page xs at) = at

-- a buffer that is written up to a place
abbrev pub over : MutBor (List ℕ) → ℕ → Page
over out at = record { out = out; at = at }

-- what stands in the buffer, and how far it is written
abbrev pub seen : Page → Sheet
seen p = page p.out.now p.at

-- the same buffer, with that in it
abbrev pub holding : Page → Sheet → Page
holding p s = over (record { ref_ptr = p.out.ref_ptr; ghost_name = p.out.ghost_name; now = bytes_of s }) (place_of s)

-- the same buffer, with a text more
abbrev pub with_text : Page → List ℕ → Page
with_text p text = holding p (onto (seen p) text)
