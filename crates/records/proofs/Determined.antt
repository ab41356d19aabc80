-- Each function's contract asks nothing and determines the reply, of every kind.
use Rattle.std.proofs.Common.{refl}
use Rattle.laws.specs.Determined.{Determined, same}
use Rattle.records.proofs.Utf8Record.is_fresh.Kinds as Utf8-is-fresh-kinds
use Rattle.records.proofs.Utf8Record.is_fresh.Reads as Utf8-is-fresh-reads
use Rattle.records.proofs.Utf8Record.is_sound.Kinds as Utf8-is-sound-kinds
use Rattle.records.proofs.Utf8Record.is_sound.Reads as Utf8-is-sound-reads
use Rattle.records.proofs.Iso2022JpRecord.is_fresh.Kinds as Iso2022Jp-is-fresh-kinds
use Rattle.records.proofs.Iso2022JpRecord.is_fresh.Reads as Iso2022Jp-is-fresh-reads
use Rattle.records.proofs.Iso2022JpRecord.is_sound.Kinds as Iso2022Jp-is-sound-kinds
use Rattle.records.proofs.Iso2022JpRecord.is_sound.Reads as Iso2022Jp-is-sound-reads
use Rattle.records.proofs.EucKrRecord.is_fresh.Kinds as EucKr-is-fresh-kinds
use Rattle.records.proofs.EucKrRecord.is_fresh.Reads as EucKr-is-fresh-reads
use Rattle.records.proofs.EucKrRecord.is_sound.Kinds as EucKr-is-sound-kinds
use Rattle.records.proofs.EucKrRecord.is_sound.Reads as EucKr-is-sound-reads
use Rattle.records.proofs.Big5Record.is_fresh.Kinds as Big5-is-fresh-kinds
use Rattle.records.proofs.Big5Record.is_fresh.Reads as Big5-is-fresh-reads
use Rattle.records.proofs.Big5Record.is_sound.Kinds as Big5-is-sound-kinds
use Rattle.records.proofs.Big5Record.is_sound.Reads as Big5-is-sound-reads
use Rattle.records.proofs.CaselessRecord.is_fresh.Kinds as Caseless-is-fresh-kinds
use Rattle.records.proofs.CaselessRecord.is_fresh.Reads as Caseless-is-fresh-reads
use Rattle.records.proofs.CaselessRecord.is_sound.Kinds as Caseless-is-sound-kinds
use Rattle.records.proofs.CaselessRecord.is_sound.Reads as Caseless-is-sound-reads
use Rattle.records.proofs.LogicalRecord.is_fresh.Kinds as Logical-is-fresh-kinds
use Rattle.records.proofs.LogicalRecord.is_fresh.Reads as Logical-is-fresh-reads
use Rattle.records.proofs.LogicalRecord.is_sound.Kinds as Logical-is-sound-kinds
use Rattle.records.proofs.LogicalRecord.is_sound.Reads as Logical-is-sound-reads
use Rattle.records.proofs.VisualRecord.is_fresh.Kinds as Visual-is-fresh-kinds
use Rattle.records.proofs.VisualRecord.is_fresh.Reads as Visual-is-fresh-reads
use Rattle.records.proofs.VisualRecord.is_sound.Kinds as Visual-is-sound-kinds
use Rattle.records.proofs.VisualRecord.is_sound.Reads as Visual-is-sound-reads
use Rattle.records.proofs.ArabicFrenchRecord.is_fresh.Kinds as ArabicFrench-is-fresh-kinds
use Rattle.records.proofs.ArabicFrenchRecord.is_fresh.Reads as ArabicFrench-is-fresh-reads
use Rattle.records.proofs.ArabicFrenchRecord.is_sound.Kinds as ArabicFrench-is-sound-kinds
use Rattle.records.proofs.ArabicFrenchRecord.is_sound.Reads as ArabicFrench-is-sound-reads
use Rattle.records.proofs.ShiftJisRecord.is_fresh.Kinds as ShiftJis-is-fresh-kinds
use Rattle.records.proofs.ShiftJisRecord.is_fresh.Reads as ShiftJis-is-fresh-reads
use Rattle.records.proofs.ShiftJisRecord.is_sound.Kinds as ShiftJis-is-sound-kinds
use Rattle.records.proofs.ShiftJisRecord.is_sound.Reads as ShiftJis-is-sound-reads

pub utf8_is_fresh : Determined 0 Utf8-is-fresh-kinds.ps Utf8-is-fresh-kinds.r Utf8-is-fresh-reads.Asked Utf8-is-fresh-reads.Learnt
utf8_is_fresh = record { total = λ κs a. tt; one = λ κs a z z' w w' p q. (same p q, refl) }

pub utf8_is_sound : Determined 0 Utf8-is-sound-kinds.ps Utf8-is-sound-kinds.r Utf8-is-sound-reads.Asked Utf8-is-sound-reads.Learnt
utf8_is_sound = record { total = λ κs a. tt; one = λ κs a z z' w w' p q. (same p q, refl) }

pub iso2022jp_is_fresh : Determined 0 Iso2022Jp-is-fresh-kinds.ps Iso2022Jp-is-fresh-kinds.r Iso2022Jp-is-fresh-reads.Asked Iso2022Jp-is-fresh-reads.Learnt
iso2022jp_is_fresh = record { total = λ κs a. tt; one = λ κs a z z' w w' p q. (same p q, refl) }

pub iso2022jp_is_sound : Determined 0 Iso2022Jp-is-sound-kinds.ps Iso2022Jp-is-sound-kinds.r Iso2022Jp-is-sound-reads.Asked Iso2022Jp-is-sound-reads.Learnt
iso2022jp_is_sound = record { total = λ κs a. tt; one = λ κs a z z' w w' p q. (same p q, refl) }

pub euckr_is_fresh : Determined 0 EucKr-is-fresh-kinds.ps EucKr-is-fresh-kinds.r EucKr-is-fresh-reads.Asked EucKr-is-fresh-reads.Learnt
euckr_is_fresh = record { total = λ κs a. tt; one = λ κs a z z' w w' p q. (same p q, refl) }

pub euckr_is_sound : Determined 0 EucKr-is-sound-kinds.ps EucKr-is-sound-kinds.r EucKr-is-sound-reads.Asked EucKr-is-sound-reads.Learnt
euckr_is_sound = record { total = λ κs a. tt; one = λ κs a z z' w w' p q. (same p q, refl) }

pub big5_is_fresh : Determined 0 Big5-is-fresh-kinds.ps Big5-is-fresh-kinds.r Big5-is-fresh-reads.Asked Big5-is-fresh-reads.Learnt
big5_is_fresh = record { total = λ κs a. tt; one = λ κs a z z' w w' p q. (same p q, refl) }

pub big5_is_sound : Determined 0 Big5-is-sound-kinds.ps Big5-is-sound-kinds.r Big5-is-sound-reads.Asked Big5-is-sound-reads.Learnt
big5_is_sound = record { total = λ κs a. tt; one = λ κs a z z' w w' p q. (same p q, refl) }

pub caseless_is_fresh : Determined 0 Caseless-is-fresh-kinds.ps Caseless-is-fresh-kinds.r Caseless-is-fresh-reads.Asked Caseless-is-fresh-reads.Learnt
caseless_is_fresh = record { total = λ κs a. tt; one = λ κs a z z' w w' p q. (same p q, refl) }

pub caseless_is_sound : Determined 0 Caseless-is-sound-kinds.ps Caseless-is-sound-kinds.r Caseless-is-sound-reads.Asked Caseless-is-sound-reads.Learnt
caseless_is_sound = record { total = λ κs a. tt; one = λ κs a z z' w w' p q. (same p q, refl) }

pub logical_is_fresh : Determined 0 Logical-is-fresh-kinds.ps Logical-is-fresh-kinds.r Logical-is-fresh-reads.Asked Logical-is-fresh-reads.Learnt
logical_is_fresh = record { total = λ κs a. tt; one = λ κs a z z' w w' p q. (same p q, refl) }

pub logical_is_sound : Determined 0 Logical-is-sound-kinds.ps Logical-is-sound-kinds.r Logical-is-sound-reads.Asked Logical-is-sound-reads.Learnt
logical_is_sound = record { total = λ κs a. tt; one = λ κs a z z' w w' p q. (same p q, refl) }

pub visual_is_fresh : Determined 0 Visual-is-fresh-kinds.ps Visual-is-fresh-kinds.r Visual-is-fresh-reads.Asked Visual-is-fresh-reads.Learnt
visual_is_fresh = record { total = λ κs a. tt; one = λ κs a z z' w w' p q. (same p q, refl) }

pub visual_is_sound : Determined 0 Visual-is-sound-kinds.ps Visual-is-sound-kinds.r Visual-is-sound-reads.Asked Visual-is-sound-reads.Learnt
visual_is_sound = record { total = λ κs a. tt; one = λ κs a z z' w w' p q. (same p q, refl) }

pub arabicfrench_is_fresh : Determined 0 ArabicFrench-is-fresh-kinds.ps ArabicFrench-is-fresh-kinds.r ArabicFrench-is-fresh-reads.Asked ArabicFrench-is-fresh-reads.Learnt
arabicfrench_is_fresh = record { total = λ κs a. tt; one = λ κs a z z' w w' p q. (same p q, refl) }

pub arabicfrench_is_sound : Determined 0 ArabicFrench-is-sound-kinds.ps ArabicFrench-is-sound-kinds.r ArabicFrench-is-sound-reads.Asked ArabicFrench-is-sound-reads.Learnt
arabicfrench_is_sound = record { total = λ κs a. tt; one = λ κs a z z' w w' p q. (same p q, refl) }

pub shiftjis_is_fresh : Determined 0 ShiftJis-is-fresh-kinds.ps ShiftJis-is-fresh-kinds.r ShiftJis-is-fresh-reads.Asked ShiftJis-is-fresh-reads.Learnt
shiftjis_is_fresh = record { total = λ κs a. tt; one = λ κs a z z' w w' p q. (same p q, refl) }

pub shiftjis_is_sound : Determined 0 ShiftJis-is-sound-kinds.ps ShiftJis-is-sound-kinds.r ShiftJis-is-sound-reads.Asked ShiftJis-is-sound-reads.Learnt
shiftjis_is_sound = record { total = λ κs a. tt; one = λ κs a z z' w w' p q. (same p q, refl) }
