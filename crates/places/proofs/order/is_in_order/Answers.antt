-- `is_in_order` meets its contract.
use Rattle.std.proofs.Common.{◌≡◌, false, refl, sym, ap, ◌∙◌}
use Rattle.kinds.specs.Kinds.{place_number}
use Rattle.places.specs.OrderLaws.{place_other, reach_kind, way_asked, picked_other, picked_own}
use Rattle.places.specs.declared.order.Asked.TheVariants as asked
use Rattle.places.proofs.order.is_in_order.Goals as goal

pub returns-in_default : goal.returns-in_default
returns-in_default g c =
    let k = g.K.Kind in
    place_other c.args.bytes c.args.body c.args.closed c.args.fed k.PLACE c.args.place (picked_other k.whole k.PLACE c.args.place.machine c.pick.result c.pick.ensures c.in_default.is)

pub returns-in-Sound : goal.returns-in-Sound
returns-in-Sound g c =
    let k = g.K.Kind in
    let law = g.met.K.Kind in
    let own = picked_own k.whole k.PLACE c.args.place.machine c.pick.result c.in-Some.m c.pick.ensures c.in-Some.is in
    let reach = reach_kind (k.whole c.in-Some.m) k.TAKES_SPACE c.args.bytes c.args.closed (law.spaced c.in-Some.m) ∙ sym c.reach-reach.ensures in
    way_asked c.args.bytes c.args.body c.args.closed c.args.fed k.PLACE c.args.place (k.whole c.in-Some.m) own (law.numbered c.in-Some.m) c.reach-reach.result reach asked.Sound (sym c.in-Sound.is ∙ (rw c.PLACE.ensures at c.ask.ensures)) c.is_sound.result c.is_sound.ensures

pub returns-in-Fresh : goal.returns-in-Fresh
returns-in-Fresh g c =
    let k = g.K.Kind in
    let law = g.met.K.Kind in
    let own = picked_own k.whole k.PLACE c.args.place.machine c.pick.result c.in-Some.m c.pick.ensures c.in-Some.is in
    let reach = reach_kind (k.whole c.in-Some.m) k.TAKES_SPACE c.args.bytes c.args.closed (law.spaced c.in-Some.m) ∙ sym c.reach-reach.ensures in
    way_asked c.args.bytes c.args.body c.args.closed c.args.fed k.PLACE c.args.place (k.whole c.in-Some.m) own (law.numbered c.in-Some.m) c.reach-reach.result reach asked.Fresh (sym c.in-Fresh.is ∙ (rw c.PLACE.ensures at c.ask.ensures)) c.is_fresh.result c.is_fresh.ensures

pub returns-in-Never : goal.returns-in-Never
returns-in-Never g c =
    let k = g.K.Kind in
    let law = g.met.K.Kind in
    let own = picked_own k.whole k.PLACE c.args.place.machine c.pick.result c.in-Some.m c.pick.ensures c.in-Some.is in
    let reach = reach_kind (k.whole c.in-Some.m) k.TAKES_SPACE c.args.bytes c.args.closed (law.spaced c.in-Some.m) ∙ sym c.reach-reach.ensures in
    way_asked c.args.bytes c.args.body c.args.closed c.args.fed k.PLACE c.args.place (k.whole c.in-Some.m) own (law.numbered c.in-Some.m) c.reach-reach.result reach asked.Never (sym c.in-Never.is ∙ (rw c.PLACE.ensures at c.ask.ensures)) false refl
