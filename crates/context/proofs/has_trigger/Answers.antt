-- `has_trigger` meets its contract.
use Rattle.std.specs.Prelude.{false, ◌||◌}
use Rattle.std.proofs.Common.{rules, ◌∙◌}
use Rattle.std.proofs.lemmas.Iterator.{YieldsList-from_slice}
use Rattle.std.proofs.lemmas.Iterator.Consumers.{fold_from_yields_List}
use Rattle.laws.specs.Lists.{fold_or_is}
use Rattle.context.specs.Head.{is_trigger}
use Rattle.context.proofs.has_trigger.Goals as goal

pub returns : goal.returns
returns c =
    fold_from_yields_List _ (λ t b. t || is_trigger b) false _ c.fold.ensures.ran (YieldsList-from_slice c.args.block.now cc) (λ a x b q k. search rules) ∙ fold_or_is is_trigger false c.args.block.now
