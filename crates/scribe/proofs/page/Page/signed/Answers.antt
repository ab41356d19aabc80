-- `signed` meets its contract.
use Rattle.std.proofs.Common.{◌≡◌, ap, ◌∙◌, true, false, w64, pos}
use Rattle.std.specs.Int.Signed.{lt_z}
use Rattle.laws.specs.Sizes.{thru}
use Rattle.scribe.specs.declared.page.Page.{Page}
use Rattle.scribe.specs.Lent.{with_text}
use Rattle.scribe.specs.LentLaws.{with_both}
use Rattle.scribe.specs.Text.{decimal_of}
use Rattle.scribe.specs.TextLaws.{below_zero, from_zero}
use Rattle.scribe.proofs.page.Page.signed.Goals as goal
use Rattle.scribe.proofs.page.Page.signed.Goals.{then-z-lt0, else-z-lt0}

pub returns : goal.returns
returns c =
    let z = c.args.z in
    let kept = thru w64 z c.ranges.z in
    let size = rw kept at c.size.ensures in
    elim c.if-z-lt0.branch [
      | then-z-lt0 w ↦
          let sign : lt_z z (pos 0) ≡ true = rw kept at w.if-z-lt0.true in
          with_both _ _ _ (w.self-is ∙ w.byte.ensures) c.decimal.ensures ∙ ap (with_text c.args.self.now) (below_zero _ z sign size)
      | else-z-lt0 w ↦
          let sign : lt_z z (pos 0) ≡ false = rw kept at w.if-z-lt0.false in
          c.decimal.ensures ∙ (ap (λ (p : Page). with_text p (decimal_of c.size.result)) w.self-is ∙ ap (with_text c.args.self.now) (from_zero _ z sign size))
    ]
