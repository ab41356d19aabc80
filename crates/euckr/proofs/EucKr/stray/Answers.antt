-- `EucKr::stray` meets its contract.
use Rattle.std.specs.Prelude.{None}
use mathlib.Core.Path.{◌≡◌, sym, ap, ◌∙◌}
use mathlib.Core.Bool.{true}
use mathlib.Core.Logic.{inl, inr}
use native.Mathlib.Omega.{arith}
use Rattle.laws.specs.Sizes.{thru64}
use Rattle.weights.specs.Weights.{term}
use Rattle.euckr.specs.Scoring.{is_extension, scored, after_byte}
use Rattle.euckr.specs.Ways.{extends_ascii, extends_lone, extends_not, stray_extends, stray_alone, stray_none}
use Rattle.euckr.specs.declared.LatinKorean.TheVariants.{Other}
use Rattle.euckr.proofs.EucKr.stray.Goals as goal
use Rattle.euckr.proofs.EucKr.stray.Goals.{then-is_extension+else-b-lt128+else-is_lone, else-is_extension}

pub returns-then-b-lt128 : goal.returns-then-b-lt128
returns-then-b-lt128 c =
    let s = c in
    let x : is_extension s.args.self.prev_byte ≡ true = sym c.is_extension.ensures ∙ c.if-is_extension.true in
    c.after_byte.ensures _ ∙ (ap (after_byte s.args.lead s.args.b) c.extension.ensures ∙ stray_extends s.args.w s.args.self s.args.lead s.args.b s.args.size (extends_ascii s.args.self.prev_byte s.args.b x c.if-b-lt128.true))

pub returns-then-is_lone : goal.returns-then-is_lone
returns-then-is_lone c =
    let s = c in
    let x : is_extension s.args.self.prev_byte ≡ true = sym c.is_extension.ensures ∙ c.if-is_extension.true in
    c.after_byte-then-is_lone.ensures _ ∙ (ap (after_byte s.args.lead s.args.b) c.extension-then-is_lone.ensures ∙ stray_extends s.args.w s.args.self s.args.lead s.args.b s.args.size (extends_lone s.args.self.prev_byte s.args.b x c.if-b-lt128.false (sym c.is_lone.ensures ∙ c.if-is_lone.true)))

pub returns-then-is_lone-2 : goal.returns-then-is_lone-2
returns-then-is_lone-2 c =
    let s = c in
    let e = c.plain.ensures ∙ ap (scored Other 0 None) (thru64 s.args.w.extension term s.requires.extension (omega arith)) in
    c.after_byte-then-is_lone-2.ensures _ ∙ (ap (after_byte s.args.lead s.args.b) e ∙ stray_alone s.args.w s.args.self s.args.lead s.args.b s.args.size (extends_not s.args.self.prev_byte s.args.b (elim c.if-is_extension.branch [
      | then-is_extension+else-b-lt128+else-is_lone w ↦ inl (sym c.is_extension.ensures ∙ w.if-is_extension.true, w.if-b-lt128.false, sym w.is_lone.ensures ∙ w.if-is_lone.false)
      | else-is_extension w ↦ inr (sym c.is_extension.ensures ∙ w.if-is_extension.false)
    ])) c.if-size-eq1.true (sym c.is_lone-then-size-eq1.ensures ∙ c.if-is_lone-2.true))

pub returns-else-is_lone-2 : goal.returns-else-is_lone-2
returns-else-is_lone-2 c =
    let s = c in
    stray_none s.args.w s.args.self s.args.lead s.args.b s.args.size (extends_not s.args.self.prev_byte s.args.b (elim c.if-is_extension.branch [
      | then-is_extension+else-b-lt128+else-is_lone w ↦ inl (sym c.is_extension.ensures ∙ w.if-is_extension.true, w.if-b-lt128.false, sym w.is_lone.ensures ∙ w.if-is_lone.false)
      | else-is_extension w ↦ inr (sym c.is_extension.ensures ∙ w.if-is_extension.false)
    ])) (inr (sym c.is_lone-then-size-eq1.ensures ∙ c.if-is_lone-2.false))

pub returns-else-size-eq1 : goal.returns-else-size-eq1
returns-else-size-eq1 c =
    let s = c in
    stray_none s.args.w s.args.self s.args.lead s.args.b s.args.size (extends_not s.args.self.prev_byte s.args.b (elim c.if-is_extension.branch [
      | then-is_extension+else-b-lt128+else-is_lone w ↦ inl (sym c.is_extension.ensures ∙ w.if-is_extension.true, w.if-b-lt128.false, sym w.is_lone.ensures ∙ w.if-is_lone.false)
      | else-is_extension w ↦ inr (sym c.is_extension.ensures ∙ w.if-is_extension.false)
    ])) (inl c.if-size-eq1.false)
