-- `better` meets its contract.
use mathlib.Core.Path.{◌≡◌}
use mathlib.Core.Bool.{true, false}
use lib.Signed.{lt_z}
use mir.Syntax.{w64}
use Rattle.laws.specs.Sizes.{thru}
use Rattle.state.specs.Leader.{better_of}
use borrow.Author.Rules.{rules}
use Rattle.state.proofs.leader.better.Goals as goal

pub returns-in_default : goal.returns-in_default
unfolding better_of
returns-in_default c = rw c.in_default.is

pub returns-in_default-best : goal.returns-in_default-best
unfolding better_of
returns-in_default-best c = rw (c.in-Ok.is, c.in_default-best.is, thru w64 c.in-Ok.n (search rules))

pub returns-then-most-n : goal.returns-then-most-n
unfolding better_of
returns-then-most-n c =
    let n = c.in-Ok.n in
    let m = c.in-Some.most in
    let e : lt_z m n ≡ true = rw (thru w64 m (search rules), thru w64 n (search rules)) at c.if-most-n.true in
    rw (c.in-Ok.is, c.in-Some.is, thru w64 n (search rules), e)

pub returns : goal.returns
unfolding better_of
returns c =
    let n = c.in-Ok.n in
    let m = c.in-Some.most in
    let e : lt_z m n ≡ false = rw (thru w64 m (search rules), thru w64 n (search rules)) at c.if-most-n.false in
    rw (c.in-Ok.is, c.in-Some.is, e)
