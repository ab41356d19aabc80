-- `as_slice` meets its contract.
use Rattle.std.proofs.Common.{refl, sym, take_all}
use Rattle.scribe.specs.Page.{text_of}
use Rattle.scribe.proofs.page.PageAsSliceU8.as_slice.Goals as goal

pub returns-then-self : goal.returns-then-self
unfolding text_of
returns-then-self c = refl

pub returns : goal.returns
unfolding text_of
returns c = sym (take_all c.args.self.now.at c.args.self.now.out.now c.if-self.false)
