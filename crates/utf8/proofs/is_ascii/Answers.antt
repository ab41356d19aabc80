-- `is_ascii` meets its contract.
use mathlib.Core.Path.{◌≡◌, sym, subst, ◌∙◌}
use native.Mathlib.Omega.{arith}
use borrow.Author.Tests.{eq-eqb, ne_eqb}
use Rattle.laws.specs.Lists.{count_some}
use Rattle.octets.specs.Octets.{non_ascii}
use Rattle.context.specs.Head.{non_ascii_count}
use Rattle.context.specs.HeadLaws.{First, scan_first, triggerless_ascii}
use Rattle.utf8.proofs.is_ascii.Goals as goal

pub returns-in-End : goal.returns-in-End
returns-in-End c =
    let scanned = c in
    let xs = scanned.args.part.now in
    sym (eq-eqb _ 0 (triggerless_ascii xs (subst (First xs) (sym scanned.scan.ensures ∙ c.in-End.is) (scan_first xs))))

pub returns-in-NonAscii : goal.returns-in-NonAscii
returns-in-NonAscii c =
    let scanned = c in
    let xs = scanned.args.part.now in
    let first = subst (First xs) (sym scanned.scan.ensures ∙ c.in-NonAscii.is) (scan_first xs) in
    sym (ne_eqb (non_ascii_count xs) 0 (λ (e : non_ascii_count xs ≡ 0). omega (arith, count_some non_ascii _ xs 0 first.within first.there)))
