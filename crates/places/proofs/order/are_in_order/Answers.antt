-- `are_in_order` meets its contract.
use Rattle.std.proofs.Common.{◌≡◌, Bool, true, false, length, sym, ◌∙◌, arith, rules}
use Rattle.places.specs.SlateLaws.{slate_long, slate_stop, slate_all}
use Rattle.places.proofs.order.are_in_order.Goals as goal

pub returns-then-bytes-gt-LIMIT : goal.returns-then-bytes-gt-LIMIT
returns-then-bytes-gt-LIMIT c = let a = c.args in slate_long a.bytes a.body a.closed a.fed a.places c.if-bytes-gt-LIMIT.true

pub returns-then-not-is_in_order : goal.returns-then-not-is_in_order
returns-then-not-is_in_order c =
    let a = c.args in
    let l : length a.places ≡ 9 = search rules in
    slate_stop a.bytes a.body a.closed a.fed a.places 8 _ (rw l (omega arith)) (sym c.is_in_order.ensures ∙ c.if-not-is_in_order.true)

pub returns-then-not-is_in_order-2 : goal.returns-then-not-is_in_order-2
returns-then-not-is_in_order-2 c =
    let a = c.args in
    let l : length a.places ≡ 9 = search rules in
    slate_stop a.bytes a.body a.closed a.fed a.places 7 _ (rw l (omega arith)) (sym c.is_in_order-2.ensures ∙ c.if-not-is_in_order-2.true)

pub returns-then-not-is_in_order-3 : goal.returns-then-not-is_in_order-3
returns-then-not-is_in_order-3 c =
    let a = c.args in
    let l : length a.places ≡ 9 = search rules in
    slate_stop a.bytes a.body a.closed a.fed a.places 6 _ (rw l (omega arith)) (sym c.is_in_order-3.ensures ∙ c.if-not-is_in_order-3.true)

pub returns-then-not-is_in_order-4 : goal.returns-then-not-is_in_order-4
returns-then-not-is_in_order-4 c =
    let a = c.args in
    let l : length a.places ≡ 9 = search rules in
    slate_stop a.bytes a.body a.closed a.fed a.places 5 _ (rw l (omega arith)) (sym c.is_in_order-4.ensures ∙ c.if-not-is_in_order-4.true)

pub returns-then-not-is_in_order-5 : goal.returns-then-not-is_in_order-5
returns-then-not-is_in_order-5 c =
    let a = c.args in
    let l : length a.places ≡ 9 = search rules in
    slate_stop a.bytes a.body a.closed a.fed a.places 4 _ (rw l (omega arith)) (sym c.is_in_order-5.ensures ∙ c.if-not-is_in_order-5.true)

pub returns-then-not-is_in_order-6 : goal.returns-then-not-is_in_order-6
returns-then-not-is_in_order-6 c =
    let a = c.args in
    let l : length a.places ≡ 9 = search rules in
    slate_stop a.bytes a.body a.closed a.fed a.places 3 _ (rw l (omega arith)) (sym c.is_in_order-6.ensures ∙ c.if-not-is_in_order-6.true)

pub returns-then-not-is_in_order-7 : goal.returns-then-not-is_in_order-7
returns-then-not-is_in_order-7 c =
    let a = c.args in
    let l : length a.places ≡ 9 = search rules in
    slate_stop a.bytes a.body a.closed a.fed a.places 2 _ (rw l (omega arith)) (sym c.is_in_order-7.ensures ∙ c.if-not-is_in_order-7.true)

pub returns-then-not-is_in_order-8 : goal.returns-then-not-is_in_order-8
returns-then-not-is_in_order-8 c =
    let a = c.args in
    let l : length a.places ≡ 9 = search rules in
    slate_stop a.bytes a.body a.closed a.fed a.places 1 _ (rw l (omega arith)) (sym c.is_in_order-8.ensures ∙ c.if-not-is_in_order-8.true)

pub returns-then-not-is_in_order-9 : goal.returns-then-not-is_in_order-9
returns-then-not-is_in_order-9 c =
    let a = c.args in
    let l : length a.places ≡ 9 = search rules in
    slate_stop a.bytes a.body a.closed a.fed a.places 0 _ (rw l (omega arith)) (sym c.is_in_order-9.ensures ∙ c.if-not-is_in_order-9.true)

pub returns : goal.returns
returns c =
    let a = c.args in
    slate_all a.bytes a.body a.closed a.fed a.places (omega (arith, c.if-bytes-gt-LIMIT.false)) _ (search rules) (sym c.is_in_order-9.ensures ∙ c.if-not-is_in_order-9.false, (sym c.is_in_order-8.ensures ∙ c.if-not-is_in_order-8.false, (sym c.is_in_order-7.ensures ∙ c.if-not-is_in_order-7.false, (sym c.is_in_order-6.ensures ∙ c.if-not-is_in_order-6.false, (sym c.is_in_order-5.ensures ∙ c.if-not-is_in_order-5.false, (sym c.is_in_order-4.ensures ∙ c.if-not-is_in_order-4.false, (sym c.is_in_order-3.ensures ∙ c.if-not-is_in_order-3.false, (sym c.is_in_order-2.ensures ∙ c.if-not-is_in_order-2.false, (sym c.is_in_order.ensures ∙ c.if-not-is_in_order.false, tt)))))))))
