-- What the scan says where a head without a trigger ends. It stands here and not in specs/, so that an edit of what a trigger is can
-- be refused at `scan_first`.
use Rattle.std.specs.Prelude.{◌≡◌, false, List, ℕ, take, drop}
use Rattle.laws.specs.Lists.{any}
use Rattle.context.specs.Head.{is_trigger, scanned_at}
use Rattle.context.specs.HeadLaws.{First, Starts, first_where}

pub first_at : (xs : List ℕ) (n : ℕ) → any is_trigger (take n xs) ≡ false → (ys : List ℕ) → drop n xs ≡ ys → Starts ys → First xs (scanned_at n ys)
first_at xs n clear = first_where xs n clear (λ b q e. rw e at q)
