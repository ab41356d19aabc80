-- `judged` meets its contract.
use native.Mathlib.Omega.{arith}
use mathlib.Core.Path.{◌≡◌, sym, ◌∙◌}
use mathlib.Core.Bool.{true}
use Rattle.detector.specs.FeedLaws.{judged_order, judged_closed, judged_length, judged_long, judged_accept}
use Rattle.state.specs.Order.{state_b}
use Rattle.state.specs.OrderLaws.{order_true}
use Rattle.detector.proofs.feed.judged.Goals as goal

pub returns-then-not-is_in_order : goal.returns-then-not-is_in_order
returns-then-not-is_in_order c = let s = c in judged_order s.args.state s.args.sized s.args.bytes (sym c.is_in_order.ensures ∙ c.if-not-is_in_order.true)

pub returns-then-front : goal.returns-then-front
returns-then-front c = let s = c in rw c.flag-flag.ensures (judged_closed s.args.state s.args.sized s.args.bytes (sym c.is_in_order.ensures ∙ c.if-not-is_in_order.false) c.if-front.true)

pub returns-then-not-sized : goal.returns-then-not-sized
returns-then-not-sized c = let s = c in rw c.flag-flag.ensures (judged_length s.args.state s.args.sized s.args.bytes (sym c.is_in_order.ensures ∙ c.if-not-is_in_order.false) c.if-front.false c.if-not-sized.true)

pub overflow_sub-front : goal.overflow_sub-front
overflow_sub-front c = let s = c in let e : state_b s.args.state ≡ true = sym c.is_in_order.ensures ∙ c.if-not-is_in_order.false in (order_true s.args.state e).front.most

pub returns-then-front-bytes : goal.returns-then-front-bytes
returns-then-front-bytes c = let s = c in rw c.flag-flag.ensures (judged_long s.args.state s.args.sized s.args.bytes (sym c.is_in_order.ensures ∙ c.if-not-is_in_order.false) c.if-front.false c.if-not-sized.false (omega (arith, c.if-front-bytes.true)))

pub returns : goal.returns
returns c = let s = c in let e : state_b s.args.state ≡ true = sym c.is_in_order.ensures ∙ c.if-not-is_in_order.false in judged_accept s.args.state s.args.sized s.args.bytes e c.if-front.false c.if-not-sized.false (omega (arith, c.if-front-bytes.false, (order_true s.args.state e).front.most))
