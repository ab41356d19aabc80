-- `machine_fields` meets its contract.
use Rattle.lines.specs.Show.{record_text}
use Rattle.lines.proofs.show.machine_fields.Goals as goal

pub returns-in-Utf8 : goal.returns-in-Utf8
unfolding record_text
returns-in-Utf8 c = rw c.in-Utf8.is c.utf8-2.ensures

pub returns-in-Iso2022Jp : goal.returns-in-Iso2022Jp
unfolding record_text
returns-in-Iso2022Jp c = rw c.in-Iso2022Jp.is c.iso2022jp.ensures

pub returns-in-EucKr : goal.returns-in-EucKr
unfolding record_text
returns-in-EucKr c = rw c.in-EucKr.is c.euckr.ensures

pub returns-in-Big5 : goal.returns-in-Big5
unfolding record_text
returns-in-Big5 c = rw c.in-Big5.is c.big5.ensures

pub returns-in-Caseless : goal.returns-in-Caseless
unfolding record_text
returns-in-Caseless c = rw c.in-Caseless.is c.caseless.ensures

pub returns-in-Logical : goal.returns-in-Logical
unfolding record_text
returns-in-Logical c = rw c.in-Logical.is c.logical.ensures

pub returns-in-Visual : goal.returns-in-Visual
unfolding record_text
returns-in-Visual c = rw c.in-Visual.is c.visual.ensures

pub returns-in-ArabicFrench : goal.returns-in-ArabicFrench
unfolding record_text
returns-in-ArabicFrench c = rw c.in-ArabicFrench.is c.arabic_french.ensures

pub returns-in-ShiftJis : goal.returns-in-ShiftJis
unfolding record_text
returns-in-ShiftJis c = rw c.in-ShiftJis.is c.shift_jis.ensures
