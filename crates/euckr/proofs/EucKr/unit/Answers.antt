-- `EucKr::unit` meets its contract.
use mathlib.Core.Path.{◌≡◌, sym, ap, ◌∙◌}
use mathlib.Core.Bool.{true, false}
use native.Mathlib.Omega.{arith}
use borrow.Author.Tests.{lt-ltb, le-ltb}
use Rattle.laws.specs.Sizes.{thru64}
use Rattle.weights.specs.Weights.{term}
use Rattle.octets.specs.Octets.{letter}
use Rattle.euckr.specs.Scoring.{is_hangul, is_hanja, hanja_of, other_of, unit_of}
use Rattle.euckr.specs.Ways.{letter_small, hanja_small, other_small}
use Rattle.euckr.proofs.EucKr.unit.Goals as goal

pub returns-then-is_letter-clause-value : goal.returns-then-is_letter-clause-value
unfolding unit_of
returns-then-is_letter-clause-value c =
    let a : letter c.args.u ≡ true = sym c.is_letter.ensures ∙ c.if-is_letter.true in
    rw a c.letter.ensures

pub returns-then-is_letter-clause-gain_bound : goal.returns-then-is_letter-clause-gain_bound
returns-then-is_letter-clause-gain_bound c = rw c.letter.ensures (letter_small c.args.w c.requires.small_scale c.args.self c.requires.small_held)

pub returns-then-is_hangul-clause-value : goal.returns-then-is_hangul-clause-value
unfolding unit_of
returns-then-is_hangul-clause-value c =
    let a : letter c.args.u ≡ false = sym c.is_letter.ensures ∙ c.if-is_letter.false in
    let h : is_hangul c.args.u ≡ true = sym c.is_hangul.ensures ∙ c.if-is_hangul.true in
    rw (a, h) c.hangul.ensures.value

pub returns-then-is_hanja-clause-value : goal.returns-then-is_hanja-clause-value
unfolding unit_of
returns-then-is_hanja-clause-value c =
    let a : letter c.args.u ≡ false = sym c.is_letter.ensures ∙ c.if-is_letter.false in
    let h : is_hangul c.args.u ≡ false = sym c.is_hangul.ensures ∙ c.if-is_hangul.false in
    let j : is_hanja c.args.u ≡ true = sym c.is_hanja.ensures ∙ c.if-is_hanja.true in
    rw (a, h, j) (c.hanja.ensures ∙ ap (hanja_of c.args.w c.args.self) (thru64 c.args.w.hanja term c.requires.small_scale.hanja (omega arith)))

pub returns-then-is_hanja-clause-gain_bound : goal.returns-then-is_hanja-clause-gain_bound
returns-then-is_hanja-clause-gain_bound c =
    let e = c.hanja.ensures ∙ ap (hanja_of c.args.w c.args.self) (thru64 c.args.w.hanja term c.requires.small_scale.hanja (omega arith)) in
    rw e (hanja_small c.args.w c.requires.small_scale c.args.self c.requires.small_held c.args.w.hanja c.requires.small_scale.hanja)

pub returns-then-u-lt128-clause-value : goal.returns-then-u-lt128-clause-value
unfolding unit_of
returns-then-u-lt128-clause-value c =
    let a : letter c.args.u ≡ false = sym c.is_letter.ensures ∙ c.if-is_letter.false in
    let h : is_hangul c.args.u ≡ false = sym c.is_hangul.ensures ∙ c.if-is_hangul.false in
    let j : is_hanja c.args.u ≡ false = sym c.is_hanja.ensures ∙ c.if-is_hanja.false in
    rw (a, h, j, lt-ltb _ _ c.if-u-lt128.true) c.plain.ensures

pub returns-clause-value : goal.returns-clause-value
unfolding unit_of
returns-clause-value c =
    let a : letter c.args.u ≡ false = sym c.is_letter.ensures ∙ c.if-is_letter.false in
    let h : is_hangul c.args.u ≡ false = sym c.is_hangul.ensures ∙ c.if-is_hangul.false in
    let j : is_hanja c.args.u ≡ false = sym c.is_hanja.ensures ∙ c.if-is_hanja.false in
    rw (a, h, j, le-ltb _ _ c.if-u-lt128.false) (c.other.ensures ∙ ap (other_of c.args.self) (thru64 c.args.w.other term c.requires.small_scale.other (omega arith)))

pub returns-clause-gain_bound : goal.returns-clause-gain_bound
returns-clause-gain_bound c =
    let e = c.other.ensures ∙ ap (other_of c.args.self) (thru64 c.args.w.other term c.requires.small_scale.other (omega arith)) in
    rw e (other_small c.args.w c.requires.small_scale c.args.self c.requires.small_held c.args.w.other c.requires.small_scale.other)
