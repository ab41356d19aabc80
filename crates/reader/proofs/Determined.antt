-- Each public function's contract asks nothing and determines the reply and what is left in the table.
use Rattle.std.proofs.Common.{◌≡◌, refl, ap, List, []}
use mathlib.Core.List.{not-mem-nil}
use denote.RattleType.{RattleType}
use denote.Param.Laws.{Laws, IsCopy}
use Rattle.laws.specs.Determined.{Determined, same}
use Rattle.reader.proofs.number.at.Kinds as at-kinds
use Rattle.reader.proofs.number.at.Reads as at-reads
use Rattle.reader.proofs.fill.entries.Kinds as entries-kinds
use Rattle.reader.proofs.fill.entries.Reads as entries-reads
use Rattle.reader.proofs.command.read.Kinds as read-kinds
use Rattle.reader.proofs.command.read.Reads as read-reads
use Rattle.reader.proofs.number.U8Number.first.Kinds as first-u8-kinds
use Rattle.reader.proofs.number.U8Number.first.Reads as first-u8-reads
use Rattle.reader.proofs.number.U16Number.first.Kinds as first-u16-kinds
use Rattle.reader.proofs.number.U16Number.first.Reads as first-u16-reads
use Rattle.reader.proofs.number.I16Number.first.Kinds as first-i16-kinds
use Rattle.reader.proofs.number.I16Number.first.Reads as first-i16-reads
use Rattle.reader.proofs.number.U32Number.first.Kinds as first-u32-kinds
use Rattle.reader.proofs.number.U32Number.first.Reads as first-u32-reads
use Rattle.reader.proofs.number.I32Number.first.Kinds as first-i32-kinds
use Rattle.reader.proofs.number.I32Number.first.Reads as first-i32-reads
use Rattle.reader.proofs.number.U64Number.first.Kinds as first-u64-kinds
use Rattle.reader.proofs.number.U64Number.first.Reads as first-u64-reads

-- of numbers of any type without borrows
pub at : (T : RattleType) (l : Laws T) (k : IsCopy T) → T.lives ≡ [] → (n : _) (d : _) (c : _) (e : _) → Determined 2 (at-kinds.ps T l k) (at-kinds.r T l k) (at-reads.Asked T l k n d c e) (at-reads.Learnt T l k n d c e)
at T l k none n d c e = record { total = λ κs a i m. absurd (not-mem-nil (rw none at m)); one = λ κs a z z' w w' p q. (same p q, refl) }

pub entries : (T : RattleType) (l : Laws T) (k : IsCopy T) → T.lives ≡ [] → (n : _) (d : _) (c : _) (e : _) → Determined 3 (entries-kinds.ps T l k) (entries-kinds.r T l k) (entries-reads.Asked T l k n d c e) (entries-reads.Learnt T l k n d c e)
entries T l k none n d c e = record { total = λ κs a i m. absurd (not-mem-nil (rw none at m)); one = λ κs a z z' w w' p q. (refl, ap (λ (t : List T.Denot). (tt, (t, tt))) (same p q)) }

pub read : Determined 1 read-kinds.ps read-kinds.r read-reads.Asked read-reads.Learnt
read = record { total = λ κs a. tt; one = λ κs a z z' w w' p q. (same p q, refl) }

pub first_u8 : Determined 1 first-u8-kinds.ps first-u8-kinds.r first-u8-reads.Asked first-u8-reads.Learnt
first_u8 = record { total = λ κs a. tt; one = λ κs a z z' w w' p q. (same p q, refl) }

pub first_u16 : Determined 1 first-u16-kinds.ps first-u16-kinds.r first-u16-reads.Asked first-u16-reads.Learnt
first_u16 = record { total = λ κs a. tt; one = λ κs a z z' w w' p q. (same p q, refl) }

pub first_i16 : Determined 1 first-i16-kinds.ps first-i16-kinds.r first-i16-reads.Asked first-i16-reads.Learnt
first_i16 = record { total = λ κs a. tt; one = λ κs a z z' w w' p q. (same p q, refl) }

pub first_u32 : Determined 1 first-u32-kinds.ps first-u32-kinds.r first-u32-reads.Asked first-u32-reads.Learnt
first_u32 = record { total = λ κs a. tt; one = λ κs a z z' w w' p q. (same p q, refl) }

pub first_i32 : Determined 1 first-i32-kinds.ps first-i32-kinds.r first-i32-reads.Asked first-i32-reads.Learnt
first_i32 = record { total = λ κs a. tt; one = λ κs a z z' w w' p q. (same p q, refl) }

pub first_u64 : Determined 1 first-u64-kinds.ps first-u64-kinds.r first-u64-reads.Asked first-u64-reads.Learnt
first_u64 = record { total = λ κs a. tt; one = λ κs a z z' w w' p q. (same p q, refl) }
