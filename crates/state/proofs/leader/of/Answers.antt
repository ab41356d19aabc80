-- `of` meets its contract.
use mathlib.Core.Path.{sym, ap, ◌∙◌}
use Rattle.state.specs.Leader.{leader_as}
use Rattle.state.specs.LeaderLaws.{leader_ascii, leader_is}
use Rattle.state.specs.declared.leader.Leader.TheVariants.{Place}
use Rattle.state.proofs.leader.of.Goals as goal

pub returns-in-None : goal.returns-in-None
returns-in-None c =
    let s = c.args.state in
    ap (leader_as s.places) (sym c.in-None.is) ∙ leader_is s c.greatest.result (sym c.is_triggered.ensures ∙ c.if-is_triggered.true) c.greatest.ensures

pub returns-in-Some : goal.returns-in-Some
returns-in-Some c =
    let s = c.args.state in
    let b = c.greatest in
    ap Place c.named.ensures
    ∙ (ap (leader_as s.places) (sym c.in-Some.is)
    ∙ leader_is s b.result (sym c.is_triggered.ensures ∙ c.if-is_triggered.true) b.ensures)

pub returns : goal.returns
returns c = leader_ascii c.args.state (sym c.is_triggered.ensures ∙ c.if-is_triggered.false)
