-- Every label that is not too long is accepted.
use Rattle.std.specs.Prelude.{◌≡◌, true, List, ℕ, ◌≤◌, length, Ok}
use Rattle.std.proofs.Common.{zero-add, arith, le-ltb}
use Rattle.laws.specs.Limit.{limit}
use Rattle.tables.specs.TablesLaws.{true_sized}
use Rattle.state.specs.OrderLaws.{true_order, start_in_order}
use Rattle.state.specs.State.{start_of}
use Rattle.detector.specs.Feed.{verdict_of, refusal_of, advance_of, feed_by, feed_of, accepted}
use Rattle.demo.specs.Demo.{demonstration}
use Rattle.demo.specs.DemoLaws.{demonstration_sized}
use Rattle.label.specs.Label.{most}

judged : (bs : List ℕ) → length bs ≤ most → refusal_of demonstration (start_of 511) bs ≡ Ok tt
unfolding verdict_of
judged bs h =
    rw (true_order (start_of 511) (start_in_order 511), true_sized demonstration demonstration_sized, zero-add, le-ltb limit (length bs) (omega arith))

-- so what the sheet of such a label shows is what all its bytes made of the start
pub label_accepted : (bs : List ℕ) → length bs ≤ most → feed_of demonstration (start_of 511) bs true ≡ accepted (advance_of demonstration (start_of 511) bs true)
unfolding feed_by
label_accepted bs h = rw (judged bs h)
