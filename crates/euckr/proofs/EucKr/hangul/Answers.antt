-- `EucKr::hangul` meets its contract.
use mathlib.Core.Path.{sym, ap, ◌∙◌}
use mathlib.Core.Logic.{inl, inr}
use Rattle.pairs.specs.Sums.{kept, read}
use Rattle.euckr.specs.Scoring.{inner_of}
use Rattle.euckr.specs.Ways.{inner_small, outer_small, hangul_inner, hangul_outer}
use Rattle.euckr.proofs.EucKr.hangul.Goals as goal
use Rattle.euckr.proofs.EucKr.hangul.Goals.{then-self+else-is_euc, else-self}

pub returns-then-is_euc-clause-value : goal.returns-then-is_euc-clause-value
returns-then-is_euc-clause-value c =
    let x = c.extra in
    c.inner_hangul.ensures ∙ (ap (inner_of c.args.w c.args.self) (read x.result x.type_inv ∙ x.ensures.value) ∙ hangul_inner c.args.w c.args.self c.args.extras.now c.args.u c.args.b c.if-self.true (sym c.is_euc.ensures ∙ c.if-is_euc.true))

pub returns-then-is_euc-clause-gain_bound : goal.returns-then-is_euc-clause-gain_bound
returns-then-is_euc-clause-gain_bound c =
    let x = c.extra in
    let e = read x.result x.type_inv in
    rw c.inner_hangul.ensures (inner_small c.args.w c.requires.small_scale c.args.self c.requires.small_held (kept x.result) (rw e x.ensures.result_bound))

pub returns-clause-value : goal.returns-clause-value
returns-clause-value c =
    c.outer_hangul.ensures ∙ hangul_outer c.args.w c.args.self c.args.extras.now c.args.u c.args.b (elim c.if-self.branch [
      | then-self+else-is_euc w ↦ inl (w.if-self.true, sym w.is_euc.ensures ∙ w.if-is_euc.false)
      | else-self w ↦ inr w.if-self.false
    ])

pub returns-clause-gain_bound : goal.returns-clause-gain_bound
returns-clause-gain_bound c = rw c.outer_hangul.ensures (outer_small c.args.w c.requires.small_scale c.args.self c.requires.small_held)
