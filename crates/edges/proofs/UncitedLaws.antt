-- Theorems on the crates below that no proof cites any more: they stand here, as they stood there, so that a change below can't lose
-- them unseen.
use Rattle.std.specs.Prelude.{◌≡◌, refl, List, ℕ, ◌+◌, ℤ, get_or, Ok, Err}
use Rattle.laws.specs.Answer.{Ran}
use Rattle.octets.specs.Octets.{ascii}
use Rattle.single.specs.Before.{ascii_next}
use Rattle.caseless_script.specs.Noted as caseless
use Rattle.caseless_script.specs.declared.Caseless.{Caseless}
use Rattle.logical.specs.Noted as logical
use Rattle.logical.specs.declared.Logical.{Logical}
use Rattle.big5.specs.Big5 as big5
use Rattle.big5.specs.declared.Big5.{Big5 as Big5Record}
use Rattle.euckr.specs.EucKr as euckr
use Rattle.euckr.specs.declared.EucKr.{EucKr as EucKrRecord}
use Rattle.kinds.specs.Kinds.{Weighed, wrapped}
use Rattle.kinds.specs.KindsLaws.{weighed_wrapped}
use Rattle.kinds.specs.declared.machine.Machine.TheVariants.{EucKr, Big5}

-- what the step before leaves is the record at the next byte
pub caseless_noted_next : (xs : List ℕ) (i : ℕ) (n : Caseless) → caseless.noted xs (i + 1) n ≡ caseless.flagged (ascii (get_or xs i 0)) n
caseless_noted_next xs i n = rw (ascii_next xs i n.prev_ascii)

pub logical_noted_next : (xs : List ℕ) (i : ℕ) (n : Logical) → logical.noted xs (i + 1) n ≡ logical.flagged (ascii (get_or xs i 0)) n
logical_noted_next xs i n = rw (ascii_next xs i n.prev_ascii)

-- what a score weighs in EUC-KR and Big5 it weighs in their kinds
pub weighed_euckr : (w : List ℤ) (m : EucKrRecord) (r : Ran EucKrRecord) → euckr.Weighed w r → Weighed (EucKr m) w r
weighed_euckr w m (Ok a) h = h
weighed_euckr w m (Err e) h = tt

pub weighed_wrapped_euckr : (w : List ℤ) (m : EucKrRecord) (r : Ran EucKrRecord) → euckr.Weighed w r → Weighed (EucKr m) w (wrapped EucKr r)
weighed_wrapped_euckr w m r h = weighed_wrapped EucKr (EucKr m) w r (weighed_euckr w m r h)

pub weighed_big5 : (w : List ℤ) (m : Big5Record) (r : Ran Big5Record) → big5.Weighed w r → Weighed (Big5 m) w r
weighed_big5 w m (Ok a) h = h
weighed_big5 w m (Err e) h = tt

pub weighed_wrapped_big5 : (w : List ℤ) (m : Big5Record) (r : Ran Big5Record) → big5.Weighed w r → Weighed (Big5 m) w (wrapped Big5 r)
weighed_wrapped_big5 w m r h = weighed_wrapped Big5 (Big5 m) w r (weighed_big5 w m r h)
