-- `feed` meets its contract.
use Rattle.std.proofs.Common.{◌≡◌, ◌<◌, length, sym, ap, ◌∙◌, w64, rules, arith}
use Rattle.laws.specs.Sizes.{thru}
use Rattle.tables.specs.Lists.{lists}
use Rattle.tables.specs.Own.{Own, own_of}
use Rattle.places.specs.Fed.{fresh_at}
use Rattle.places.specs.FedLaws.{kind_fresh, way_none, way_live}
use Rattle.places.proofs.place.feed.Goals as goal

pub returns-in_default-clause-value : goal.returns-in_default-clause-value
returns-in_default-clause-value g c =
    let k = g.K.Kind in
    let law = g.met.K.Kind in
    let all : length c.args.places ≡ 9 = search rules in
    let fresh = c.whole-fresh.ensures ∙ (ap k.whole c.fresh.ensures ∙ kind_fresh k.whole k.fresh k.PLACE (law.numbered k.fresh) (law.begins k.fresh)) in
    let why = c.in_default.field-0 in
    (way_none k.PLACE (own_of (lists c.args.tables.now) k.PLACE) c.args.body c.args.part.now c.args.places _ (rw all law.placed) c.whole-fresh.result fresh why.reason why.at (rw c.PLACE.ensures at c.in_default.is) c.passed.result (rw c.PLACE.ensures at c.passed.ensures)).0

pub returns-clause-value : goal.returns-clause-value
returns-clause-value g c =
    let k = g.K.Kind in
    let law = g.met.K.Kind in
    let all : length c.args.places ≡ 9 = search rules in
    let fresh = c.whole-fresh.ensures ∙ (ap k.whole c.fresh.ensures ∙ kind_fresh k.whole k.fresh k.PLACE (law.numbered k.fresh) (law.begins k.fresh)) in
    let z = c.in-Ok.before in
    let r = c.run-ran in
    let weights = ap (λ (o : Own). o.weights) c.own-own.ensures in
    (way_live k.PLACE (own_of (lists c.args.tables.now) k.PLACE) c.args.body c.args.part.now c.args.places _ (rw all law.placed) c.whole-fresh.result fresh z (rw c.PLACE.ensures at c.in-Ok.is) r.result c.settled.result (rw (c.own-own.ensures, c.PLACE.ensures) at r.ensures.value) r.ensures.bounded (rw (weights, c.PLACE.ensures) at r.ensures.weighed) (rw (thru w64 z (search rules)) at c.settled.ensures)).0
