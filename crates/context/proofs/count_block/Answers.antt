-- `count_block` meets its contract.
use Rattle.std.specs.Prelude.{◌≡◌, count_by}
use Rattle.std.proofs.Common.{rules, ◌∙◌}
use Rattle.laws.specs.Lists.{count_by_is}
use Rattle.octets.specs.Octets.{non_ascii}
use Rattle.context.proofs.count_block.Goals as goal

pub returns : goal.returns
returns c =
    let e : c.sum.result ≡ count_by non_ascii c.args.block.now = search rules in
    e ∙ count_by_is non_ascii c.args.block.now
