-- A kind of machine, as one of the nine.
use Rattle.std.specs.Prelude.{◌≡◌, refl, ℕ, ◌<◌, Bool, true, false, eqb, ltb, Option, Some, None}
use borrow.Author.Tests.{ltb-true}
use Rattle.tables.specs.Own.{place_count}
use Rattle.kinds.specs.Kinds.{place_number, fresh_of}
use Rattle.kinds.specs.declared.machine.Machine.{Machine}
use Rattle.kinds.specs.declared.machine.Machine.TheVariants.{Utf8, Iso2022Jp, EucKr, Big5, Caseless, Logical, Visual, ArabicFrench, ShiftJis}
use Rattle.utf8.specs.Utf8 as utf8
use Rattle.utf8.specs.declared.Utf8.{Utf8 as Utf8Record}
use Rattle.iso2022jp.specs.Iso2022Jp as iso2022jp
use Rattle.iso2022jp.specs.declared.Iso2022Jp.{Iso2022Jp as Iso2022JpRecord}
use Rattle.euckr.specs.Scoring as euckr
use Rattle.euckr.specs.declared.EucKr.{EucKr as EucKrRecord}
use Rattle.big5.specs.Scoring as big5
use Rattle.big5.specs.declared.Big5.{Big5 as Big5Record}
use Rattle.caseless_script.specs.Caseless as caseless
use Rattle.caseless_script.specs.declared.Caseless.{Caseless as CaselessRecord}
use Rattle.logical.specs.Logical as logical
use Rattle.logical.specs.declared.Logical.{Logical as LogicalRecord}
use Rattle.visual.specs.Visual as visual
use Rattle.visual.specs.declared.Visual.{Visual as VisualRecord}
use Rattle.arabic_french.specs.ArabicFrench as arabic_french
use Rattle.arabic_french.specs.declared.ArabicFrench.{ArabicFrench as ArabicFrenchRecord}
use Rattle.shift_jis.specs.ShiftJis as shift_jis
use Rattle.shift_jis.specs.declared.ShiftJis.{ShiftJis as ShiftJisRecord}

-- the machine is the kind's, or stands at another place
abbrev pub Picked : {S : Type 0} → (S → Machine) → ℕ → Machine → Option S → Type 0
Picked whole place machine (Some m) = machine ≡ whole m
Picked whole place machine None = eqb (place_number machine) place ≡ false

-- ---- each kind's fresh machine
pub fresh_utf8 : (m : Utf8Record) → fresh_of (Utf8 m) ≡ Utf8 utf8.fresh
unfolding fresh_of
fresh_utf8 m = refl

pub fresh_iso2022jp : (m : Iso2022JpRecord) → fresh_of (Iso2022Jp m) ≡ Iso2022Jp iso2022jp.fresh
unfolding fresh_of
fresh_iso2022jp m = refl

pub fresh_euckr : (m : EucKrRecord) → fresh_of (EucKr m) ≡ EucKr euckr.fresh
unfolding fresh_of
fresh_euckr m = refl

pub fresh_big5 : (m : Big5Record) → fresh_of (Big5 m) ≡ Big5 big5.fresh
unfolding fresh_of
fresh_big5 m = refl

pub fresh_caseless : (m : CaselessRecord) → fresh_of (Caseless m) ≡ Caseless caseless.fresh
unfolding fresh_of
fresh_caseless m = refl

pub fresh_logical : (m : LogicalRecord) → fresh_of (Logical m) ≡ Logical logical.fresh
unfolding fresh_of
fresh_logical m = refl

pub fresh_visual : (m : VisualRecord) → fresh_of (Visual m) ≡ Visual visual.fresh
unfolding fresh_of
fresh_visual m = refl

pub fresh_arabic_french : (m : ArabicFrenchRecord) → fresh_of (ArabicFrench m) ≡ ArabicFrench arabic_french.fresh
unfolding fresh_of
fresh_arabic_french m = refl

pub fresh_shift_jis : (m : ShiftJisRecord) → fresh_of (ShiftJis m) ≡ ShiftJis shift_jis.fresh
unfolding fresh_of
fresh_shift_jis m = refl

-- ---- a number that is a place's
pub placed : (k : ℕ) → ltb k place_count ≡ true → k < place_count
placed k e = ltb-true _ _ e
