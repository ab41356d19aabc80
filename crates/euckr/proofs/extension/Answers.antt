-- `extension` meets its contract.
use Rattle.std.specs.Prelude.{None}
use mathlib.Core.Path.{◌≡◌, sym, ap, ◌∙◌}
use mathlib.Core.Bool.{true, false}
use native.Mathlib.Omega.{arith}
use Rattle.laws.specs.Sizes.{thru64}
use Rattle.weights.specs.Weights.{term}
use Rattle.octets.specs.Octets.{letter}
use Rattle.pairs.specs.Sums.{sum_read}
use Rattle.euckr.specs.Scoring.{is_lone, scored, extension_of}
use Rattle.euckr.specs.declared.LatinKorean.TheVariants.{Other}
use Rattle.euckr.proofs.extension.Goals as goal

pub returns-then-is_lone : goal.returns-then-is_lone
unfolding extension_of
returns-then-is_lone c =
    let s = c in
    let t : is_lone s.args.b ≡ true = sym c.is_lone.ensures ∙ c.if-is_lone.true in
    rw t (c.plain.ensures ∙ ap (scored Other 0 None) (sum_read s.args.w.extension s.args.w.extension term term s.requires.extension s.requires.extension (omega arith)))

pub returns-then-is_ascii_letter : goal.returns-then-is_ascii_letter
unfolding extension_of
returns-then-is_ascii_letter c =
    let s = c in
    let t : is_lone s.args.b ≡ false = sym c.is_lone.ensures ∙ c.if-is_lone.false in
    let l : letter s.args.b ≡ true = sym c.is_ascii_letter.ensures ∙ c.if-is_ascii_letter.true in
    rw (t, l, thru64 s.args.w.extension term s.requires.extension (omega arith))

pub returns : goal.returns
unfolding extension_of
returns c =
    let s = c in
    let t : is_lone s.args.b ≡ false = sym c.is_lone.ensures ∙ c.if-is_lone.false in
    let l : letter s.args.b ≡ false = sym c.is_ascii_letter.ensures ∙ c.if-is_ascii_letter.false in
    rw (t, l) (c.plain-2.ensures ∙ ap (scored Other 0 None) (thru64 s.args.w.extension term s.requires.extension (omega arith)))
