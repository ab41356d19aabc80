-- `end_decoder` meets its contract.
use Rattle.std.proofs.Common.{w64, rules}
use Rattle.laws.specs.Sizes.{thru}
use Rattle.places.specs.FedLaws.{end_way_none, end_way_live}
use Rattle.places.proofs.place.end_decoder.Goals as goal

pub returns-in_default : goal.returns-in_default
returns-in_default c = end_way_none c.args.body c.args.place c.fresh-fresh.result c.fresh-fresh.ensures c.in_default.field-0.reason c.in_default.field-0.at c.in_default.is c.passed.result c.passed.ensures

pub returns : goal.returns
returns c =
    let z = c.in-Ok.before in
    end_way_live c.args.body c.args.place c.fresh-fresh.result c.fresh-fresh.ensures z c.in-Ok.is c.close_decoder.result c.settled.result c.close_decoder.ensures (rw (thru w64 z (search rules)) at c.settled.ensures)
