-- What is written to a page is written to the buffer that was lent to it; texts join.
use Rattle.std.specs.Prelude.{◌≡◌, refl, List, ◌++◌, ℕ}
use Rattle.std.proofs.Common.{ap, ◌∙◌}
use Rattle.scribe.specs.declared.page.Page.{Page}
use Rattle.scribe.specs.Lent.{seen, holding, with_text}
use Rattle.scribe.specs.Page.{Page as Sheet, page, onto}
use Rattle.scribe.specs.PageLaws.{follow}

seen_holding : (p : Page) (s : Sheet) → seen (holding p s) ≡ s
seen_holding p (page xs at) = refl

pub seen_text : (p : Page) (text : List ℕ) → seen (with_text p text) ≡ onto (seen p) text
seen_text p text = seen_holding p (onto (seen p) text)

-- what is known of sheets, of the pages that hold them
pub carried : (p : Page) (xs ys zs : List ℕ) {q : Page} → ((s : Sheet) → s ≡ onto (seen p) xs → onto s ys ≡ onto (seen p) zs) → q ≡ with_text p xs → with_text q ys ≡ with_text p zs
carried p xs ys zs h e = ap (λ (r : Page). with_text r ys) e ∙ ap (holding p) (h (seen (with_text p xs)) (seen_text p xs))

pub kept : (p : Page) (text : List ℕ) → onto (seen p) text ≡ seen p → with_text p text ≡ p
kept p text e = ap (holding p) e

-- one text after the other
pub with_both : (p : Page) (xs ys : List ℕ) {q r : Page} → q ≡ with_text p xs → r ≡ with_text q ys → r ≡ with_text p (xs ++ ys)
with_both p xs ys {q} {r} e f = f ∙ carried p xs ys (xs ++ ys) (λ s d. follow (seen p) xs ys d refl) e
