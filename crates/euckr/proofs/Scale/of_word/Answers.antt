-- `Scale::of_word` meets its contract.
use borrow.Author.Rules.{rules}
use borrow.Author.Tests.{lt-ltb, le-ltb}
use mir.Syntax.{w64}
use Rattle.laws.specs.Sizes.{thru}
use Rattle.euckr.specs.Scoring.{long_of}
use Rattle.euckr.proofs.Scale.of_word.Goals as goal

pub returns-then-word-gt5 : goal.returns-then-word-gt5
unfolding long_of
returns-then-word-gt5 c = let s = c.args.self in rw (lt-ltb _ _ c.if-word-gt5.true) (thru w64 s.long (search rules))

pub returns : goal.returns
unfolding long_of
returns c = rw (le-ltb _ _ c.if-word-gt5.false)
