-- What a kind's functions say of a reply, as one of the nine, determines the reply: a machine is made of one record alone.
use Rattle.std.specs.Prelude.{◌≡◌, refl, ℕ, ℤ, true, false, Option, Some, None, Ok, Err}
use borrow.Author.Tests.{eq-eqb}
use Rattle.std.proofs.Common.{sym, ap, ◌∙◌}
use Rattle.laws.specs.Answer.{Ran}
use Rattle.kinds.specs.Kind.{Picked}
use Rattle.kinds.specs.Kinds.{place_number, wrapped}
use Rattle.kinds.specs.declared.machine.Machine.{Machine}
use Rattle.kinds.specs.declared.machine.Machine.TheVariants.{Utf8, Iso2022Jp, EucKr, Big5, Caseless, Logical, Visual, ArabicFrench, ShiftJis}
use Rattle.utf8.specs.declared.Utf8.{Utf8 as Utf8Record}
use Rattle.iso2022jp.specs.declared.Iso2022Jp.{Iso2022Jp as Iso2022JpRecord}
use Rattle.euckr.specs.declared.EucKr.{EucKr as EucKrRecord}
use Rattle.big5.specs.declared.Big5.{Big5 as Big5Record}
use Rattle.caseless_script.specs.declared.Caseless.{Caseless as CaselessRecord}
use Rattle.logical.specs.declared.Logical.{Logical as LogicalRecord}
use Rattle.visual.specs.declared.Visual.{Visual as VisualRecord}
use Rattle.arabic_french.specs.declared.ArabicFrench.{ArabicFrench as ArabicFrenchRecord}
use Rattle.shift_jis.specs.declared.ShiftJis.{ShiftJis as ShiftJisRecord}

no_truth : true ≡ false → ⊥
no_truth e = cc

module _ {S : Type 0} (whole : S → Machine) where
  -- of a place's machine its record is picked, of any other none
  pub one_picked : (place : ℕ) → ((m n : S) → whole m ≡ whole n → m ≡ n) → ((m : S) → place_number (whole m) ≡ place) → (machine : Machine) (r s : Option S) → Picked whole place machine r → Picked whole place machine s → r ≡ s
  one_picked place own numbered machine (Some m) (Some n) p q = ap Some (own m n (sym p ∙ q))
  one_picked place own numbered machine (Some m) None p q = absurd (no_truth (sym (eq-eqb _ _ (ap place_number p ∙ numbered m)) ∙ q))
  one_picked place own numbered machine None (Some n) p q = absurd (no_truth (sym (eq-eqb _ _ (ap place_number q ∙ numbered n)) ∙ p))
  one_picked place own numbered machine None None p q = refl

  pub one_wrapped : ((m n : S) → whole m ≡ whole n → m ≡ n) → (r s : Ran S) → wrapped whole r ≡ wrapped whole s → r ≡ s
  one_wrapped own (Ok a) (Ok b) e =
      let w : ◌≡◌ {A = Machine × ℤ} (whole a.0, a.1) (whole b.0, b.1) = cc in
      let p : whole a.0 ≡ whole b.0 = ap (λ (t : Machine × ℤ). t.0) w in
      λ i. Ok (own a.0 b.0 p i, (w i).1)
  one_wrapped own (Ok a) (Err y) e = cc
  one_wrapped own (Err x) (Ok b) e = cc
  one_wrapped own (Err x) (Err y) e = cc

-- ---- no two records of a kind are one machine
pub one_utf8 : (m n : Utf8Record) → Utf8 m ≡ Utf8 n → m ≡ n
one_utf8 m n e = cc

pub one_iso2022jp : (m n : Iso2022JpRecord) → Iso2022Jp m ≡ Iso2022Jp n → m ≡ n
one_iso2022jp m n e = cc

pub one_euckr : (m n : EucKrRecord) → EucKr m ≡ EucKr n → m ≡ n
one_euckr m n e = cc

pub one_big5 : (m n : Big5Record) → Big5 m ≡ Big5 n → m ≡ n
one_big5 m n e = cc

pub one_caseless : (m n : CaselessRecord) → Caseless m ≡ Caseless n → m ≡ n
one_caseless m n e = cc

pub one_logical : (m n : LogicalRecord) → Logical m ≡ Logical n → m ≡ n
one_logical m n e = cc

pub one_visual : (m n : VisualRecord) → Visual m ≡ Visual n → m ≡ n
one_visual m n e = cc

pub one_arabicfrench : (m n : ArabicFrenchRecord) → ArabicFrench m ≡ ArabicFrench n → m ≡ n
one_arabicfrench m n e = cc

pub one_shiftjis : (m n : ShiftJisRecord) → ShiftJis m ≡ ShiftJis n → m ≡ n
one_shiftjis m n e = cc
