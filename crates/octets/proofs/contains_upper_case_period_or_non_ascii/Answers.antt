-- `contains_upper_case_period_or_non_ascii` meets its contract.
use Rattle.std.proofs.Common.{rules, ◌∙◌}
use Rattle.std.proofs.lemmas.Iterator.{YieldsList-from_slice}
use Rattle.std.proofs.lemmas.Iterator.Search.{any_from_yields_List}
use Rattle.laws.specs.Lists.{list_any_is}
use Rattle.octets.specs.Octets.{unfit_for_label}
use Rattle.octets.proofs.contains_upper_case_period_or_non_ascii.Goals as goal

pub returns : goal.returns
returns c =
    any_from_yields_List unfit_for_label _ _ _ c.any.ensures.ran (YieldsList-from_slice c.args.label.now cc) (λ x b q k. search rules) ∙ list_any_is unfit_for_label c.args.label.now
