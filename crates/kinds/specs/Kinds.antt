-- The nine machines as one: a byte, a stretch and the end of the stream do to each what its own definition says, over its own
-- tables.
use Rattle.std.specs.Prelude.{Bool, cond, List, ℕ, eqb, ℤ, pos, Result, Ok, Err}
use Rattle.laws.specs.Answer.{Ran, answered, BoundedBy}
use Rattle.laws.specs.Carried.{carried}
use Rattle.laws.specs.Run.{Outcome}
use Rattle.laws.specs.declared.Stop.{Stop}
use Rattle.laws.specs.declared.Stop.TheVariants.{Unfit}
use Rattle.octets.specs.Octets.{between}
use Rattle.big5.specs.Big5 as big5
use Rattle.big5.specs.Scoring as big5-scoring
use Rattle.euckr.specs.EucKr as euckr
use Rattle.euckr.specs.Scoring as euckr-scoring
use Rattle.iso2022jp.specs.Iso2022Jp as iso2022jp
use Rattle.arabic_french.specs.ArabicFrench as arabic_french
use Rattle.caseless_script.specs.Caseless as caseless
use Rattle.logical.specs.Logical as logical
use Rattle.visual.specs.Visual as visual
use Rattle.shift_jis.specs.ShiftJis as shiftJis
use Rattle.utf8.specs.Utf8 as utf-8
use Rattle.tables.specs.Own.{Own, lent_to}
use Rattle.kinds.specs.declared.machine.Machine.{Machine}
use Rattle.kinds.specs.declared.machine.Machine.TheVariants.{Utf8, Iso2022Jp, EucKr, Big5, Caseless, Logical, Visual, ArabicFrench, ShiftJis}

-- the number of the place that holds machines of this kind
abbrev pub place_number : Machine → ℕ
place_number (Utf8 m) = 0
place_number (Iso2022Jp m) = 1
place_number (EucKr m) = 2
place_number (Big5 m) = 3
place_number (Caseless m) = 4
place_number (Logical m) = 5
place_number (Visual m) = 6
place_number (ArabicFrench m) = 7
place_number (ShiftJis m) = 8

-- those of the single-byte machines
abbrev pub is_single : ℕ → Bool
is_single k = between 4 7 k

-- the fresh machine of the same kind; a kind's own fresh record takes no machine and is `fresh`
unfoldable pub fresh_of : Machine → Machine
fresh_of (Utf8 m) = Utf8 utf-8.fresh
fresh_of (Iso2022Jp m) = Iso2022Jp iso2022jp.fresh
fresh_of (EucKr m) = EucKr euckr-scoring.fresh
fresh_of (Big5 m) = Big5 big5-scoring.fresh
fresh_of (Caseless m) = Caseless caseless.fresh
fresh_of (Logical m) = Logical logical.fresh
fresh_of (Visual m) = Visual visual.fresh
fresh_of (ArabicFrench m) = ArabicFrench arabic_french.fresh
fresh_of (ShiftJis m) = ShiftJis shiftJis.fresh

-- ---- one byte
unfoldable pub step_of : Own → Machine → ℕ → Outcome Machine
step_of o (Utf8 m) b = carried Utf8 (utf-8.step_of m b)
step_of o (Iso2022Jp m) b = carried Iso2022Jp (iso2022jp.step_of o.index m b)
step_of o (EucKr m) b = carried EucKr (euckr-scoring.step_of (euckr-scoring.lent o.index o.extras (euckr-scoring.scale_of o.weights)) m b)
step_of o (Big5 m) b = carried Big5 (big5-scoring.step_of (big5-scoring.lent o.index (big5-scoring.scale_of o.weights)) m b)
step_of o (Caseless m) b = carried Caseless (caseless.step_of (lent_to o) m b)
step_of o (Logical m) b = carried Logical (logical.step_of (lent_to o) m b)
step_of o (Visual m) b = carried Visual (visual.step_of (lent_to o) m b)
step_of o (ArabicFrench m) b = carried ArabicFrench (arabic_french.step_of (lent_to o) m b)
step_of o (ShiftJis m) b = carried ShiftJis (shiftJis.step_of o.index m b)

-- ---- the end of the stream
unfoldable pub close_of : Own → Machine → Outcome Machine
close_of o (Utf8 m) = carried Utf8 (utf-8.close_of m)
close_of o (Iso2022Jp m) = carried Iso2022Jp (iso2022jp.close_of m)
close_of o (EucKr m) = carried EucKr (euckr.close_of m)
close_of o (Big5 m) = carried Big5 (big5.close_of m)
close_of o (Caseless m) = carried Caseless (caseless.close_of (lent_to o) m)
close_of o (Logical m) = carried Logical (logical.close_of (lent_to o) m)
close_of o (Visual m) = carried Visual (visual.close_of (lent_to o) m)
close_of o (ArabicFrench m) = carried ArabicFrench (arabic_french.close_of (lent_to o) m)
close_of o (ShiftJis m) = carried ShiftJis (shiftJis.close_of m)

-- ---- the code's answers
abbrev pub ran_as : ℕ → Outcome Machine → Ran Machine
ran_as at o = answered at o

-- a kind's own, as one of the nine
abbrev pub wrapped : {S : Type 0} → (S → Machine) → Ran S → Ran Machine
wrapped wrap (Ok a) = Ok (wrap a.0, a.1)
wrapped wrap (Err e) = Err e

-- of a kind whose score never changes
abbrev pub unchanged : {S : Type 0} → Result S Stop → Ran S
unchanged (Ok m) = Ok (m, pos 0)
unchanged (Err e) = Err e

-- a stretch, and the end of the stream: for any record, any lent lists and any stretch
unfoldable pub ran_of : Own → Machine → List ℕ → Ran Machine
ran_of o (Utf8 m) xs = wrapped Utf8 (unchanged (utf-8.ran_of m xs))
ran_of o (Iso2022Jp m) xs = wrapped Iso2022Jp (unchanged (iso2022jp.ran_of o.index m xs))
ran_of o (EucKr m) xs = wrapped EucKr (euckr.ran_of o.index o.extras o.weights m xs)
ran_of o (Big5 m) xs = wrapped Big5 (big5.ran_of o.index o.weights m xs)
ran_of o (Caseless m) xs = wrapped Caseless (caseless.ran_of (lent_to o) m xs)
ran_of o (Logical m) xs = wrapped Logical (logical.ran_of (lent_to o) m xs)
ran_of o (Visual m) xs = wrapped Visual (visual.ran_of (lent_to o) m xs)
ran_of o (ArabicFrench m) xs = wrapped ArabicFrench (arabic_french.ran_of (lent_to o) m xs)
ran_of o (ShiftJis m) xs = wrapped ShiftJis (unchanged (shiftJis.ran_of o.index m xs))

unfoldable pub closed_of : Own → Machine → Ran Machine
closed_of o (Utf8 m) = wrapped Utf8 (unchanged (utf-8.closed_of m))
closed_of o (Iso2022Jp m) = wrapped Iso2022Jp (unchanged (iso2022jp.closed_of m))
closed_of o (EucKr m) = wrapped EucKr (euckr.closed_of m)
closed_of o (Big5 m) = wrapped Big5 (big5.closed_of m)
closed_of o (Caseless m) = wrapped Caseless (caseless.closed_of (lent_to o) m)
closed_of o (Logical m) = wrapped Logical (logical.closed_of (lent_to o) m)
closed_of o (Visual m) = wrapped Visual (visual.closed_of (lent_to o) m)
closed_of o (ArabicFrench m) = wrapped ArabicFrench (arabic_french.closed_of (lent_to o) m)
closed_of o (ShiftJis m) = wrapped ShiftJis (unchanged (shiftJis.closed_of m))

-- the same, of a machine of the kind that stands at place k; one of another kind is not run
abbrev pub ran_at : ℕ → Own → Machine → List ℕ → Ran Machine
ran_at k o m xs = cond (eqb (place_number m) k) (ran_of o m xs) (Err Unfit)

-- the end of the stream of a machine to which it is no space; of one to which it is, no answer
abbrev pub decoded_end : Machine → Ran Machine
decoded_end (Utf8 m) = wrapped Utf8 (unchanged (utf-8.closed_of m))
decoded_end (Iso2022Jp m) = wrapped Iso2022Jp (unchanged (iso2022jp.closed_of m))
decoded_end (EucKr m) = wrapped EucKr (euckr.closed_of m)
decoded_end (Big5 m) = wrapped Big5 (big5.closed_of m)
decoded_end (Caseless m) = Err Unfit
decoded_end (Logical m) = Err Unfit
decoded_end (Visual m) = Err Unfit
decoded_end (ArabicFrench m) = Err Unfit
decoded_end (ShiftJis m) = wrapped ShiftJis (unchanged (shiftJis.closed_of m))

-- a live answer's change of the score is at most c in size
abbrev pub Bounded : ℕ → Ran Machine → Type 0
Bounded c r = BoundedBy c r

-- a live answer of the two machines that hold scores came of weights of 32 bits
abbrev pub WeighedIn : Machine → List ℤ → Type 0
WeighedIn (EucKr m) w = euckr.SmallScale (euckr-scoring.scale_of w)
WeighedIn (Big5 m) w = big5.SmallScale (big5-scoring.scale_of w)
WeighedIn (Utf8 m) w = Unit {0}
WeighedIn (Iso2022Jp m) w = Unit {0}
WeighedIn (Caseless m) w = Unit {0}
WeighedIn (Logical m) w = Unit {0}
WeighedIn (Visual m) w = Unit {0}
WeighedIn (ArabicFrench m) w = Unit {0}
WeighedIn (ShiftJis m) w = Unit {0}

abbrev pub Weighed : {S : Type 0} → Machine → List ℤ → Ran S → Type 0
Weighed m w (Ok a) = WeighedIn m w
Weighed m w (Err e) = Unit {0}
