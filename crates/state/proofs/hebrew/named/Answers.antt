-- `named` meets its contract.
use mathlib.Core.Path.{sym, ◌∙◌}
use borrow.Author.Rules.{rules}
use Rattle.state.specs.HebrewLaws.{named_settled, named_kept}
use Rattle.state.proofs.hebrew.named.Goals as goal

pub returns-then-is_contested : goal.returns-then-is_contested
returns-then-is_contested c =
    let a = c.args in
    c.punctuated.ensures ∙ named_settled a.places a.at _ _ (search rules) (sym c.is_contested.ensures ∙ c.if-is_contested.true)

pub returns : goal.returns
returns c =
    let a = c.args in
    named_kept a.places a.at _ _ (search rules) (sym c.is_contested.ensures ∙ c.if-is_contested.false)
