-- `end` meets its contract.
use Rattle.std.proofs.Common.{◌≡◌, length, sym, ap, ◌∙◌, rules}
use Rattle.places.specs.FedLaws.{kind_space, ended_read}
use Rattle.places.specs.OrderLaws.{no_truth}
use Rattle.places.proofs.place.end.Goals as goal

pub returns-then-TAKES_SPACE-clause-value : goal.returns-then-TAKES_SPACE-clause-value
returns-then-TAKES_SPACE-clause-value g c =
    let k = g.K.Kind in
    let law = g.met.K.Kind in
    let single = kind_space k.whole k.fresh k.PLACE (law.numbered k.fresh) k.TAKES_SPACE (law.spaced k.fresh) ∙ (sym c.TAKES_SPACE.ensures ∙ c.if-TAKES_SPACE.true) in
    rw single (rw c.wrapping_add_u64-past.ensures.value at c.feed.ensures.value)

pub returns-clause-value : goal.returns-clause-value
returns-clause-value g c =
    let k = g.K.Kind in
    let law = g.met.K.Kind in
    let all : length c.args.places ≡ 9 = search rules in
    let other = kind_space k.whole k.fresh k.PLACE (law.numbered k.fresh) k.TAKES_SPACE (law.spaced k.fresh) ∙ (sym c.TAKES_SPACE.ensures ∙ c.if-TAKES_SPACE.false) in
    rw other (ended_read c.args.body c.args.places _ k.PLACE (rw all law.placed) _ (rw c.PLACE.ensures at c.end_decoder.ensures))

pub returns-clause-known_end : goal.returns-clause-known_end
returns-clause-known_end g c =
    let k = g.K.Kind in
    let law = g.met.K.Kind in
    let other = kind_space k.whole k.fresh k.PLACE (law.numbered k.fresh) k.TAKES_SPACE (law.spaced k.fresh) ∙ (sym c.TAKES_SPACE.ensures ∙ c.if-TAKES_SPACE.false) in
    λ h. absurd (no_truth (sym other ∙ h))
