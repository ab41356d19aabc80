-- Each public function's contract asks nothing and determines the reply.
use Rattle.std.proofs.Common.{◌≡◌, [], refl}
use denote.RattleType.{RattleType}
use denote.Param.Laws.{Laws, IsCopy}
use mathlib.Core.List.{not-mem-nil}
use Rattle.laws.specs.Determined.{Determined, DeterminedSeen, same}
use Rattle.tables.specs.OwnLists.{own_lists}
use Rattle.kinds.specs.declared.machine.Machine.TheVariants.{Utf8, Iso2022Jp, EucKr, Big5, Caseless, Logical, Visual, ArabicFrench, ShiftJis}
use Rattle.kinds.proofs.OneLaws.{one_picked, one_wrapped, one_utf8, one_iso2022jp, one_euckr, one_big5, one_caseless, one_logical, one_visual, one_arabicfrench, one_shiftjis}
use Rattle.kinds.proofs.machine.Machine.place_number.Kinds as machine-place-number-kinds
use Rattle.kinds.proofs.machine.Machine.place_number.Reads as machine-place-number-reads
use Rattle.kinds.proofs.machine.Machine.fresh.Kinds as machine-fresh-kinds
use Rattle.kinds.proofs.machine.Machine.fresh.Reads as machine-fresh-reads
use Rattle.kinds.proofs.machine.Machine.run.Kinds as machine-run-kinds
use Rattle.kinds.proofs.machine.Machine.run.Reads as machine-run-reads
use Rattle.kinds.proofs.machine.Machine.close.Kinds as machine-close-kinds
use Rattle.kinds.proofs.machine.Machine.close.Reads as machine-close-reads
use Rattle.kinds.proofs.machine.Machine.close_decoder.Kinds as machine-close-decoder-kinds
use Rattle.kinds.proofs.machine.Machine.close_decoder.Reads as machine-close-decoder-reads
use Rattle.kinds.proofs.machine.run.Kinds as run-kinds
use Rattle.kinds.proofs.machine.run.Reads as run-reads
use Rattle.kinds.proofs.machine.Utf8Kind.fresh.Kinds as utf8-fresh-kinds
use Rattle.kinds.proofs.machine.Utf8Kind.fresh.Reads as utf8-fresh-reads
use Rattle.kinds.proofs.machine.Utf8Kind.whole.Kinds as utf8-whole-kinds
use Rattle.kinds.proofs.machine.Utf8Kind.whole.Reads as utf8-whole-reads
use Rattle.kinds.proofs.machine.Utf8Kind.own.Kinds as utf8-own-kinds
use Rattle.kinds.proofs.machine.Utf8Kind.own.Reads as utf8-own-reads
use Rattle.kinds.proofs.machine.Utf8Kind.pick.Kinds as utf8-pick-kinds
use Rattle.kinds.proofs.machine.Utf8Kind.pick.Reads as utf8-pick-reads
use Rattle.kinds.proofs.machine.Utf8Kind.run_over.Kinds as utf8-run-over-kinds
use Rattle.kinds.proofs.machine.Utf8Kind.run_over.Reads as utf8-run-over-reads
use Rattle.kinds.proofs.machine.Utf8Kind.close_over.Kinds as utf8-close-over-kinds
use Rattle.kinds.proofs.machine.Utf8Kind.close_over.Reads as utf8-close-over-reads
use Rattle.kinds.proofs.machine.Iso2022JpKind.fresh.Kinds as iso2022jp-fresh-kinds
use Rattle.kinds.proofs.machine.Iso2022JpKind.fresh.Reads as iso2022jp-fresh-reads
use Rattle.kinds.proofs.machine.Iso2022JpKind.whole.Kinds as iso2022jp-whole-kinds
use Rattle.kinds.proofs.machine.Iso2022JpKind.whole.Reads as iso2022jp-whole-reads
use Rattle.kinds.proofs.machine.Iso2022JpKind.own.Kinds as iso2022jp-own-kinds
use Rattle.kinds.proofs.machine.Iso2022JpKind.own.Reads as iso2022jp-own-reads
use Rattle.kinds.proofs.machine.Iso2022JpKind.pick.Kinds as iso2022jp-pick-kinds
use Rattle.kinds.proofs.machine.Iso2022JpKind.pick.Reads as iso2022jp-pick-reads
use Rattle.kinds.proofs.machine.Iso2022JpKind.run_over.Kinds as iso2022jp-run-over-kinds
use Rattle.kinds.proofs.machine.Iso2022JpKind.run_over.Reads as iso2022jp-run-over-reads
use Rattle.kinds.proofs.machine.Iso2022JpKind.close_over.Kinds as iso2022jp-close-over-kinds
use Rattle.kinds.proofs.machine.Iso2022JpKind.close_over.Reads as iso2022jp-close-over-reads
use Rattle.kinds.proofs.machine.EucKrKind.fresh.Kinds as euckr-fresh-kinds
use Rattle.kinds.proofs.machine.EucKrKind.fresh.Reads as euckr-fresh-reads
use Rattle.kinds.proofs.machine.EucKrKind.whole.Kinds as euckr-whole-kinds
use Rattle.kinds.proofs.machine.EucKrKind.whole.Reads as euckr-whole-reads
use Rattle.kinds.proofs.machine.EucKrKind.own.Kinds as euckr-own-kinds
use Rattle.kinds.proofs.machine.EucKrKind.own.Reads as euckr-own-reads
use Rattle.kinds.proofs.machine.EucKrKind.pick.Kinds as euckr-pick-kinds
use Rattle.kinds.proofs.machine.EucKrKind.pick.Reads as euckr-pick-reads
use Rattle.kinds.proofs.machine.EucKrKind.run_over.Kinds as euckr-run-over-kinds
use Rattle.kinds.proofs.machine.EucKrKind.run_over.Reads as euckr-run-over-reads
use Rattle.kinds.proofs.machine.EucKrKind.close_over.Kinds as euckr-close-over-kinds
use Rattle.kinds.proofs.machine.EucKrKind.close_over.Reads as euckr-close-over-reads
use Rattle.kinds.proofs.machine.Big5Kind.fresh.Kinds as big5-fresh-kinds
use Rattle.kinds.proofs.machine.Big5Kind.fresh.Reads as big5-fresh-reads
use Rattle.kinds.proofs.machine.Big5Kind.whole.Kinds as big5-whole-kinds
use Rattle.kinds.proofs.machine.Big5Kind.whole.Reads as big5-whole-reads
use Rattle.kinds.proofs.machine.Big5Kind.own.Kinds as big5-own-kinds
use Rattle.kinds.proofs.machine.Big5Kind.own.Reads as big5-own-reads
use Rattle.kinds.proofs.machine.Big5Kind.pick.Kinds as big5-pick-kinds
use Rattle.kinds.proofs.machine.Big5Kind.pick.Reads as big5-pick-reads
use Rattle.kinds.proofs.machine.Big5Kind.run_over.Kinds as big5-run-over-kinds
use Rattle.kinds.proofs.machine.Big5Kind.run_over.Reads as big5-run-over-reads
use Rattle.kinds.proofs.machine.Big5Kind.close_over.Kinds as big5-close-over-kinds
use Rattle.kinds.proofs.machine.Big5Kind.close_over.Reads as big5-close-over-reads
use Rattle.kinds.proofs.machine.CaselessKind.fresh.Kinds as caseless-fresh-kinds
use Rattle.kinds.proofs.machine.CaselessKind.fresh.Reads as caseless-fresh-reads
use Rattle.kinds.proofs.machine.CaselessKind.whole.Kinds as caseless-whole-kinds
use Rattle.kinds.proofs.machine.CaselessKind.whole.Reads as caseless-whole-reads
use Rattle.kinds.proofs.machine.CaselessKind.own.Kinds as caseless-own-kinds
use Rattle.kinds.proofs.machine.CaselessKind.own.Reads as caseless-own-reads
use Rattle.kinds.proofs.machine.CaselessKind.pick.Kinds as caseless-pick-kinds
use Rattle.kinds.proofs.machine.CaselessKind.pick.Reads as caseless-pick-reads
use Rattle.kinds.proofs.machine.CaselessKind.run_over.Kinds as caseless-run-over-kinds
use Rattle.kinds.proofs.machine.CaselessKind.run_over.Reads as caseless-run-over-reads
use Rattle.kinds.proofs.machine.CaselessKind.close_over.Kinds as caseless-close-over-kinds
use Rattle.kinds.proofs.machine.CaselessKind.close_over.Reads as caseless-close-over-reads
use Rattle.kinds.proofs.machine.LogicalKind.fresh.Kinds as logical-fresh-kinds
use Rattle.kinds.proofs.machine.LogicalKind.fresh.Reads as logical-fresh-reads
use Rattle.kinds.proofs.machine.LogicalKind.whole.Kinds as logical-whole-kinds
use Rattle.kinds.proofs.machine.LogicalKind.whole.Reads as logical-whole-reads
use Rattle.kinds.proofs.machine.LogicalKind.own.Kinds as logical-own-kinds
use Rattle.kinds.proofs.machine.LogicalKind.own.Reads as logical-own-reads
use Rattle.kinds.proofs.machine.LogicalKind.pick.Kinds as logical-pick-kinds
use Rattle.kinds.proofs.machine.LogicalKind.pick.Reads as logical-pick-reads
use Rattle.kinds.proofs.machine.LogicalKind.run_over.Kinds as logical-run-over-kinds
use Rattle.kinds.proofs.machine.LogicalKind.run_over.Reads as logical-run-over-reads
use Rattle.kinds.proofs.machine.LogicalKind.close_over.Kinds as logical-close-over-kinds
use Rattle.kinds.proofs.machine.LogicalKind.close_over.Reads as logical-close-over-reads
use Rattle.kinds.proofs.machine.VisualKind.fresh.Kinds as visual-fresh-kinds
use Rattle.kinds.proofs.machine.VisualKind.fresh.Reads as visual-fresh-reads
use Rattle.kinds.proofs.machine.VisualKind.whole.Kinds as visual-whole-kinds
use Rattle.kinds.proofs.machine.VisualKind.whole.Reads as visual-whole-reads
use Rattle.kinds.proofs.machine.VisualKind.own.Kinds as visual-own-kinds
use Rattle.kinds.proofs.machine.VisualKind.own.Reads as visual-own-reads
use Rattle.kinds.proofs.machine.VisualKind.pick.Kinds as visual-pick-kinds
use Rattle.kinds.proofs.machine.VisualKind.pick.Reads as visual-pick-reads
use Rattle.kinds.proofs.machine.VisualKind.run_over.Kinds as visual-run-over-kinds
use Rattle.kinds.proofs.machine.VisualKind.run_over.Reads as visual-run-over-reads
use Rattle.kinds.proofs.machine.VisualKind.close_over.Kinds as visual-close-over-kinds
use Rattle.kinds.proofs.machine.VisualKind.close_over.Reads as visual-close-over-reads
use Rattle.kinds.proofs.machine.ArabicFrenchKind.fresh.Kinds as arabicfrench-fresh-kinds
use Rattle.kinds.proofs.machine.ArabicFrenchKind.fresh.Reads as arabicfrench-fresh-reads
use Rattle.kinds.proofs.machine.ArabicFrenchKind.whole.Kinds as arabicfrench-whole-kinds
use Rattle.kinds.proofs.machine.ArabicFrenchKind.whole.Reads as arabicfrench-whole-reads
use Rattle.kinds.proofs.machine.ArabicFrenchKind.own.Kinds as arabicfrench-own-kinds
use Rattle.kinds.proofs.machine.ArabicFrenchKind.own.Reads as arabicfrench-own-reads
use Rattle.kinds.proofs.machine.ArabicFrenchKind.pick.Kinds as arabicfrench-pick-kinds
use Rattle.kinds.proofs.machine.ArabicFrenchKind.pick.Reads as arabicfrench-pick-reads
use Rattle.kinds.proofs.machine.ArabicFrenchKind.run_over.Kinds as arabicfrench-run-over-kinds
use Rattle.kinds.proofs.machine.ArabicFrenchKind.run_over.Reads as arabicfrench-run-over-reads
use Rattle.kinds.proofs.machine.ArabicFrenchKind.close_over.Kinds as arabicfrench-close-over-kinds
use Rattle.kinds.proofs.machine.ArabicFrenchKind.close_over.Reads as arabicfrench-close-over-reads
use Rattle.kinds.proofs.machine.ShiftJisKind.fresh.Kinds as shiftjis-fresh-kinds
use Rattle.kinds.proofs.machine.ShiftJisKind.fresh.Reads as shiftjis-fresh-reads
use Rattle.kinds.proofs.machine.ShiftJisKind.whole.Kinds as shiftjis-whole-kinds
use Rattle.kinds.proofs.machine.ShiftJisKind.whole.Reads as shiftjis-whole-reads
use Rattle.kinds.proofs.machine.ShiftJisKind.own.Kinds as shiftjis-own-kinds
use Rattle.kinds.proofs.machine.ShiftJisKind.own.Reads as shiftjis-own-reads
use Rattle.kinds.proofs.machine.ShiftJisKind.pick.Kinds as shiftjis-pick-kinds
use Rattle.kinds.proofs.machine.ShiftJisKind.pick.Reads as shiftjis-pick-reads
use Rattle.kinds.proofs.machine.ShiftJisKind.run_over.Kinds as shiftjis-run-over-kinds
use Rattle.kinds.proofs.machine.ShiftJisKind.run_over.Reads as shiftjis-run-over-reads
use Rattle.kinds.proofs.machine.ShiftJisKind.close_over.Kinds as shiftjis-close-over-kinds
use Rattle.kinds.proofs.machine.ShiftJisKind.close_over.Reads as shiftjis-close-over-reads
use Rattle.utf8.specs.contracts.Utf8.{the_row as utf8_row}
use Rattle.iso2022jp.specs.contracts.Iso2022Jp.{the_row as iso2022jp_row}
use Rattle.euckr.specs.contracts.EucKr.{the_row as euckr_row}
use Rattle.big5.specs.contracts.Big5.{the_row as big5_row}
use Rattle.caseless_script.specs.contracts.Caseless.{the_row as caseless_row}
use Rattle.logical.specs.contracts.Logical.{the_row as logical_row}
use Rattle.visual.specs.contracts.Visual.{the_row as visual_row}
use Rattle.arabic_french.specs.contracts.ArabicFrench.{the_row as arabicfrench_row}
use Rattle.shift_jis.specs.contracts.ShiftJis.{the_row as shiftjis_row}

pub machine_place_number : Determined 0 machine-place-number-kinds.ps machine-place-number-kinds.r machine-place-number-reads.Asked machine-place-number-reads.Learnt
machine_place_number = record { total = λ κs a. tt; one = λ κs a z z' w w' p q. (same p q, refl) }

pub machine_fresh : Determined 0 machine-fresh-kinds.ps machine-fresh-kinds.r machine-fresh-reads.Asked machine-fresh-reads.Learnt
machine_fresh = record { total = λ κs a. tt; one = λ κs a z z' w w' p q. (same p q, refl) }

pub machine_run : Determined 3 machine-run-kinds.ps machine-run-kinds.r machine-run-reads.Asked machine-run-reads.Learnt
machine_run = record { total = λ κs a. tt; one = λ κs a z z' w w' p q. (same p.0 q.0, refl) }

pub machine_close : Determined 2 machine-close-kinds.ps machine-close-kinds.r machine-close-reads.Asked machine-close-reads.Learnt
machine_close = record { total = λ κs a. tt; one = λ κs a z z' w w' p q. (same p.0 q.0, refl) }

pub machine_close_decoder : Determined 0 machine-close-decoder-kinds.ps machine-close-decoder-kinds.r machine-close-decoder-reads.Asked machine-close-decoder-reads.Learnt
machine_close_decoder = record { total = λ κs a. tt; one = λ κs a z z' w w' p q. (same p q, refl) }

-- of every type that holds no borrow, as the records don't
pub run : (T : RattleType) (l : Laws T) (k : IsCopy T) → T.lives ≡ [] → (s : _) (sd : _) (c : _) (cd : _) → Determined 4 (run-kinds.ps T l k) (run-kinds.r T l k) (run-reads.Asked T l k s sd c cd) (run-reads.Learnt T l k s sd c cd)
run T l k none s sd c cd = record { total = λ κs a n m. absurd (not-mem-nil (rw none at m)); one = λ κs a z z' w w' p q. (same p.0 q.0, refl) }

-- and so of each of the nine
pub utf8_run : (l : Laws utf8_row) (k : IsCopy utf8_row) (s : _) (sd : _) (c : _) (cd : _) → Determined 4 (run-kinds.ps utf8_row l k) (run-kinds.r utf8_row l k) (run-reads.Asked utf8_row l k s sd c cd) (run-reads.Learnt utf8_row l k s sd c cd)
utf8_run l k s sd c cd = run utf8_row l k refl s sd c cd

pub iso2022jp_run : (l : Laws iso2022jp_row) (k : IsCopy iso2022jp_row) (s : _) (sd : _) (c : _) (cd : _) → Determined 4 (run-kinds.ps iso2022jp_row l k) (run-kinds.r iso2022jp_row l k) (run-reads.Asked iso2022jp_row l k s sd c cd) (run-reads.Learnt iso2022jp_row l k s sd c cd)
iso2022jp_run l k s sd c cd = run iso2022jp_row l k refl s sd c cd

pub euckr_run : (l : Laws euckr_row) (k : IsCopy euckr_row) (s : _) (sd : _) (c : _) (cd : _) → Determined 4 (run-kinds.ps euckr_row l k) (run-kinds.r euckr_row l k) (run-reads.Asked euckr_row l k s sd c cd) (run-reads.Learnt euckr_row l k s sd c cd)
euckr_run l k s sd c cd = run euckr_row l k refl s sd c cd

pub big5_run : (l : Laws big5_row) (k : IsCopy big5_row) (s : _) (sd : _) (c : _) (cd : _) → Determined 4 (run-kinds.ps big5_row l k) (run-kinds.r big5_row l k) (run-reads.Asked big5_row l k s sd c cd) (run-reads.Learnt big5_row l k s sd c cd)
big5_run l k s sd c cd = run big5_row l k refl s sd c cd

pub caseless_run : (l : Laws caseless_row) (k : IsCopy caseless_row) (s : _) (sd : _) (c : _) (cd : _) → Determined 4 (run-kinds.ps caseless_row l k) (run-kinds.r caseless_row l k) (run-reads.Asked caseless_row l k s sd c cd) (run-reads.Learnt caseless_row l k s sd c cd)
caseless_run l k s sd c cd = run caseless_row l k refl s sd c cd

pub logical_run : (l : Laws logical_row) (k : IsCopy logical_row) (s : _) (sd : _) (c : _) (cd : _) → Determined 4 (run-kinds.ps logical_row l k) (run-kinds.r logical_row l k) (run-reads.Asked logical_row l k s sd c cd) (run-reads.Learnt logical_row l k s sd c cd)
logical_run l k s sd c cd = run logical_row l k refl s sd c cd

pub visual_run : (l : Laws visual_row) (k : IsCopy visual_row) (s : _) (sd : _) (c : _) (cd : _) → Determined 4 (run-kinds.ps visual_row l k) (run-kinds.r visual_row l k) (run-reads.Asked visual_row l k s sd c cd) (run-reads.Learnt visual_row l k s sd c cd)
visual_run l k s sd c cd = run visual_row l k refl s sd c cd

pub arabicfrench_run : (l : Laws arabicfrench_row) (k : IsCopy arabicfrench_row) (s : _) (sd : _) (c : _) (cd : _) → Determined 4 (run-kinds.ps arabicfrench_row l k) (run-kinds.r arabicfrench_row l k) (run-reads.Asked arabicfrench_row l k s sd c cd) (run-reads.Learnt arabicfrench_row l k s sd c cd)
arabicfrench_run l k s sd c cd = run arabicfrench_row l k refl s sd c cd

pub shiftjis_run : (l : Laws shiftjis_row) (k : IsCopy shiftjis_row) (s : _) (sd : _) (c : _) (cd : _) → Determined 4 (run-kinds.ps shiftjis_row l k) (run-kinds.r shiftjis_row l k) (run-reads.Asked shiftjis_row l k s sd c cd) (run-reads.Learnt shiftjis_row l k s sd c cd)
shiftjis_run l k s sd c cd = run shiftjis_row l k refl s sd c cd

pub utf8_fresh : Determined 0 utf8-fresh-kinds.ps utf8-fresh-kinds.r utf8-fresh-reads.Asked utf8-fresh-reads.Learnt
utf8_fresh = record { total = λ κs a. tt; one = λ κs a z z' w w' p q. (same p q, refl) }

pub utf8_whole : Determined 0 utf8-whole-kinds.ps utf8-whole-kinds.r utf8-whole-reads.Asked utf8-whole-reads.Learnt
utf8_whole = record { total = λ κs a. tt; one = λ κs a z z' w w' p q. (same p q, refl) }

pub utf8_own : DeterminedSeen 2 utf8-own-kinds.ps utf8-own-kinds.r utf8-own-reads.Asked utf8-own-reads.Learnt (λ κs. own_lists)
utf8_own = record { total = λ κs a. tt; one = λ κs a z z' w w' p q. (same p q, refl) }

pub utf8_pick : Determined 0 utf8-pick-kinds.ps utf8-pick-kinds.r utf8-pick-reads.Asked utf8-pick-reads.Learnt
utf8_pick = record { total = λ κs a. tt; one = λ κs a z z' w w' p q. (one_picked Utf8 0 one_utf8 (λ m. refl) a.0 z z' p q, refl) }

pub utf8_run_over : Determined 3 utf8-run-over-kinds.ps utf8-run-over-kinds.r utf8-run-over-reads.Asked utf8-run-over-reads.Learnt
utf8_run_over = record { total = λ κs a. tt; one = λ κs a z z' w w' p q. (one_wrapped Utf8 one_utf8 z z' (same p.0 q.0), refl) }

pub utf8_close_over : Determined 2 utf8-close-over-kinds.ps utf8-close-over-kinds.r utf8-close-over-reads.Asked utf8-close-over-reads.Learnt
utf8_close_over = record { total = λ κs a. tt; one = λ κs a z z' w w' p q. (one_wrapped Utf8 one_utf8 z z' (same p.0 q.0), refl) }

pub iso2022jp_fresh : Determined 0 iso2022jp-fresh-kinds.ps iso2022jp-fresh-kinds.r iso2022jp-fresh-reads.Asked iso2022jp-fresh-reads.Learnt
iso2022jp_fresh = record { total = λ κs a. tt; one = λ κs a z z' w w' p q. (same p q, refl) }

pub iso2022jp_whole : Determined 0 iso2022jp-whole-kinds.ps iso2022jp-whole-kinds.r iso2022jp-whole-reads.Asked iso2022jp-whole-reads.Learnt
iso2022jp_whole = record { total = λ κs a. tt; one = λ κs a z z' w w' p q. (same p q, refl) }

pub iso2022jp_own : DeterminedSeen 2 iso2022jp-own-kinds.ps iso2022jp-own-kinds.r iso2022jp-own-reads.Asked iso2022jp-own-reads.Learnt (λ κs. own_lists)
iso2022jp_own = record { total = λ κs a. tt; one = λ κs a z z' w w' p q. (same p q, refl) }

pub iso2022jp_pick : Determined 0 iso2022jp-pick-kinds.ps iso2022jp-pick-kinds.r iso2022jp-pick-reads.Asked iso2022jp-pick-reads.Learnt
iso2022jp_pick = record { total = λ κs a. tt; one = λ κs a z z' w w' p q. (one_picked Iso2022Jp 1 one_iso2022jp (λ m. refl) a.0 z z' p q, refl) }

pub iso2022jp_run_over : Determined 3 iso2022jp-run-over-kinds.ps iso2022jp-run-over-kinds.r iso2022jp-run-over-reads.Asked iso2022jp-run-over-reads.Learnt
iso2022jp_run_over = record { total = λ κs a. tt; one = λ κs a z z' w w' p q. (one_wrapped Iso2022Jp one_iso2022jp z z' (same p.0 q.0), refl) }

pub iso2022jp_close_over : Determined 2 iso2022jp-close-over-kinds.ps iso2022jp-close-over-kinds.r iso2022jp-close-over-reads.Asked iso2022jp-close-over-reads.Learnt
iso2022jp_close_over = record { total = λ κs a. tt; one = λ κs a z z' w w' p q. (one_wrapped Iso2022Jp one_iso2022jp z z' (same p.0 q.0), refl) }

pub euckr_fresh : Determined 0 euckr-fresh-kinds.ps euckr-fresh-kinds.r euckr-fresh-reads.Asked euckr-fresh-reads.Learnt
euckr_fresh = record { total = λ κs a. tt; one = λ κs a z z' w w' p q. (same p q, refl) }

pub euckr_whole : Determined 0 euckr-whole-kinds.ps euckr-whole-kinds.r euckr-whole-reads.Asked euckr-whole-reads.Learnt
euckr_whole = record { total = λ κs a. tt; one = λ κs a z z' w w' p q. (same p q, refl) }

pub euckr_own : DeterminedSeen 2 euckr-own-kinds.ps euckr-own-kinds.r euckr-own-reads.Asked euckr-own-reads.Learnt (λ κs. own_lists)
euckr_own = record { total = λ κs a. tt; one = λ κs a z z' w w' p q. (same p q, refl) }

pub euckr_pick : Determined 0 euckr-pick-kinds.ps euckr-pick-kinds.r euckr-pick-reads.Asked euckr-pick-reads.Learnt
euckr_pick = record { total = λ κs a. tt; one = λ κs a z z' w w' p q. (one_picked EucKr 2 one_euckr (λ m. refl) a.0 z z' p q, refl) }

pub euckr_run_over : Determined 3 euckr-run-over-kinds.ps euckr-run-over-kinds.r euckr-run-over-reads.Asked euckr-run-over-reads.Learnt
euckr_run_over = record { total = λ κs a. tt; one = λ κs a z z' w w' p q. (one_wrapped EucKr one_euckr z z' (same p.0 q.0), refl) }

pub euckr_close_over : Determined 2 euckr-close-over-kinds.ps euckr-close-over-kinds.r euckr-close-over-reads.Asked euckr-close-over-reads.Learnt
euckr_close_over = record { total = λ κs a. tt; one = λ κs a z z' w w' p q. (one_wrapped EucKr one_euckr z z' (same p.0 q.0), refl) }

pub big5_fresh : Determined 0 big5-fresh-kinds.ps big5-fresh-kinds.r big5-fresh-reads.Asked big5-fresh-reads.Learnt
big5_fresh = record { total = λ κs a. tt; one = λ κs a z z' w w' p q. (same p q, refl) }

pub big5_whole : Determined 0 big5-whole-kinds.ps big5-whole-kinds.r big5-whole-reads.Asked big5-whole-reads.Learnt
big5_whole = record { total = λ κs a. tt; one = λ κs a z z' w w' p q. (same p q, refl) }

pub big5_own : DeterminedSeen 2 big5-own-kinds.ps big5-own-kinds.r big5-own-reads.Asked big5-own-reads.Learnt (λ κs. own_lists)
big5_own = record { total = λ κs a. tt; one = λ κs a z z' w w' p q. (same p q, refl) }

pub big5_pick : Determined 0 big5-pick-kinds.ps big5-pick-kinds.r big5-pick-reads.Asked big5-pick-reads.Learnt
big5_pick = record { total = λ κs a. tt; one = λ κs a z z' w w' p q. (one_picked Big5 3 one_big5 (λ m. refl) a.0 z z' p q, refl) }

pub big5_run_over : Determined 3 big5-run-over-kinds.ps big5-run-over-kinds.r big5-run-over-reads.Asked big5-run-over-reads.Learnt
big5_run_over = record { total = λ κs a. tt; one = λ κs a z z' w w' p q. (one_wrapped Big5 one_big5 z z' (same p.0 q.0), refl) }

pub big5_close_over : Determined 2 big5-close-over-kinds.ps big5-close-over-kinds.r big5-close-over-reads.Asked big5-close-over-reads.Learnt
big5_close_over = record { total = λ κs a. tt; one = λ κs a z z' w w' p q. (one_wrapped Big5 one_big5 z z' (same p.0 q.0), refl) }

pub caseless_fresh : Determined 0 caseless-fresh-kinds.ps caseless-fresh-kinds.r caseless-fresh-reads.Asked caseless-fresh-reads.Learnt
caseless_fresh = record { total = λ κs a. tt; one = λ κs a z z' w w' p q. (same p q, refl) }

pub caseless_whole : Determined 0 caseless-whole-kinds.ps caseless-whole-kinds.r caseless-whole-reads.Asked caseless-whole-reads.Learnt
caseless_whole = record { total = λ κs a. tt; one = λ κs a z z' w w' p q. (same p q, refl) }

pub caseless_own : DeterminedSeen 2 caseless-own-kinds.ps caseless-own-kinds.r caseless-own-reads.Asked caseless-own-reads.Learnt (λ κs. own_lists)
caseless_own = record { total = λ κs a. tt; one = λ κs a z z' w w' p q. (same p q, refl) }

pub caseless_pick : Determined 0 caseless-pick-kinds.ps caseless-pick-kinds.r caseless-pick-reads.Asked caseless-pick-reads.Learnt
caseless_pick = record { total = λ κs a. tt; one = λ κs a z z' w w' p q. (one_picked Caseless 4 one_caseless (λ m. refl) a.0 z z' p q, refl) }

pub caseless_run_over : Determined 3 caseless-run-over-kinds.ps caseless-run-over-kinds.r caseless-run-over-reads.Asked caseless-run-over-reads.Learnt
caseless_run_over = record { total = λ κs a. tt; one = λ κs a z z' w w' p q. (one_wrapped Caseless one_caseless z z' (same p.0 q.0), refl) }

pub caseless_close_over : Determined 2 caseless-close-over-kinds.ps caseless-close-over-kinds.r caseless-close-over-reads.Asked caseless-close-over-reads.Learnt
caseless_close_over = record { total = λ κs a. tt; one = λ κs a z z' w w' p q. (one_wrapped Caseless one_caseless z z' (same p.0 q.0), refl) }

pub logical_fresh : Determined 0 logical-fresh-kinds.ps logical-fresh-kinds.r logical-fresh-reads.Asked logical-fresh-reads.Learnt
logical_fresh = record { total = λ κs a. tt; one = λ κs a z z' w w' p q. (same p q, refl) }

pub logical_whole : Determined 0 logical-whole-kinds.ps logical-whole-kinds.r logical-whole-reads.Asked logical-whole-reads.Learnt
logical_whole = record { total = λ κs a. tt; one = λ κs a z z' w w' p q. (same p q, refl) }

pub logical_own : DeterminedSeen 2 logical-own-kinds.ps logical-own-kinds.r logical-own-reads.Asked logical-own-reads.Learnt (λ κs. own_lists)
logical_own = record { total = λ κs a. tt; one = λ κs a z z' w w' p q. (same p q, refl) }

pub logical_pick : Determined 0 logical-pick-kinds.ps logical-pick-kinds.r logical-pick-reads.Asked logical-pick-reads.Learnt
logical_pick = record { total = λ κs a. tt; one = λ κs a z z' w w' p q. (one_picked Logical 5 one_logical (λ m. refl) a.0 z z' p q, refl) }

pub logical_run_over : Determined 3 logical-run-over-kinds.ps logical-run-over-kinds.r logical-run-over-reads.Asked logical-run-over-reads.Learnt
logical_run_over = record { total = λ κs a. tt; one = λ κs a z z' w w' p q. (one_wrapped Logical one_logical z z' (same p.0 q.0), refl) }

pub logical_close_over : Determined 2 logical-close-over-kinds.ps logical-close-over-kinds.r logical-close-over-reads.Asked logical-close-over-reads.Learnt
logical_close_over = record { total = λ κs a. tt; one = λ κs a z z' w w' p q. (one_wrapped Logical one_logical z z' (same p.0 q.0), refl) }

pub visual_fresh : Determined 0 visual-fresh-kinds.ps visual-fresh-kinds.r visual-fresh-reads.Asked visual-fresh-reads.Learnt
visual_fresh = record { total = λ κs a. tt; one = λ κs a z z' w w' p q. (same p q, refl) }

pub visual_whole : Determined 0 visual-whole-kinds.ps visual-whole-kinds.r visual-whole-reads.Asked visual-whole-reads.Learnt
visual_whole = record { total = λ κs a. tt; one = λ κs a z z' w w' p q. (same p q, refl) }

pub visual_own : DeterminedSeen 2 visual-own-kinds.ps visual-own-kinds.r visual-own-reads.Asked visual-own-reads.Learnt (λ κs. own_lists)
visual_own = record { total = λ κs a. tt; one = λ κs a z z' w w' p q. (same p q, refl) }

pub visual_pick : Determined 0 visual-pick-kinds.ps visual-pick-kinds.r visual-pick-reads.Asked visual-pick-reads.Learnt
visual_pick = record { total = λ κs a. tt; one = λ κs a z z' w w' p q. (one_picked Visual 6 one_visual (λ m. refl) a.0 z z' p q, refl) }

pub visual_run_over : Determined 3 visual-run-over-kinds.ps visual-run-over-kinds.r visual-run-over-reads.Asked visual-run-over-reads.Learnt
visual_run_over = record { total = λ κs a. tt; one = λ κs a z z' w w' p q. (one_wrapped Visual one_visual z z' (same p.0 q.0), refl) }

pub visual_close_over : Determined 2 visual-close-over-kinds.ps visual-close-over-kinds.r visual-close-over-reads.Asked visual-close-over-reads.Learnt
visual_close_over = record { total = λ κs a. tt; one = λ κs a z z' w w' p q. (one_wrapped Visual one_visual z z' (same p.0 q.0), refl) }

pub arabicfrench_fresh : Determined 0 arabicfrench-fresh-kinds.ps arabicfrench-fresh-kinds.r arabicfrench-fresh-reads.Asked arabicfrench-fresh-reads.Learnt
arabicfrench_fresh = record { total = λ κs a. tt; one = λ κs a z z' w w' p q. (same p q, refl) }

pub arabicfrench_whole : Determined 0 arabicfrench-whole-kinds.ps arabicfrench-whole-kinds.r arabicfrench-whole-reads.Asked arabicfrench-whole-reads.Learnt
arabicfrench_whole = record { total = λ κs a. tt; one = λ κs a z z' w w' p q. (same p q, refl) }

pub arabicfrench_own : DeterminedSeen 2 arabicfrench-own-kinds.ps arabicfrench-own-kinds.r arabicfrench-own-reads.Asked arabicfrench-own-reads.Learnt (λ κs. own_lists)
arabicfrench_own = record { total = λ κs a. tt; one = λ κs a z z' w w' p q. (same p q, refl) }

pub arabicfrench_pick : Determined 0 arabicfrench-pick-kinds.ps arabicfrench-pick-kinds.r arabicfrench-pick-reads.Asked arabicfrench-pick-reads.Learnt
arabicfrench_pick = record { total = λ κs a. tt; one = λ κs a z z' w w' p q. (one_picked ArabicFrench 7 one_arabicfrench (λ m. refl) a.0 z z' p q, refl) }

pub arabicfrench_run_over : Determined 3 arabicfrench-run-over-kinds.ps arabicfrench-run-over-kinds.r arabicfrench-run-over-reads.Asked arabicfrench-run-over-reads.Learnt
arabicfrench_run_over = record { total = λ κs a. tt; one = λ κs a z z' w w' p q. (one_wrapped ArabicFrench one_arabicfrench z z' (same p.0 q.0), refl) }

pub arabicfrench_close_over : Determined 2 arabicfrench-close-over-kinds.ps arabicfrench-close-over-kinds.r arabicfrench-close-over-reads.Asked arabicfrench-close-over-reads.Learnt
arabicfrench_close_over = record { total = λ κs a. tt; one = λ κs a z z' w w' p q. (one_wrapped ArabicFrench one_arabicfrench z z' (same p.0 q.0), refl) }

pub shiftjis_fresh : Determined 0 shiftjis-fresh-kinds.ps shiftjis-fresh-kinds.r shiftjis-fresh-reads.Asked shiftjis-fresh-reads.Learnt
shiftjis_fresh = record { total = λ κs a. tt; one = λ κs a z z' w w' p q. (same p q, refl) }

pub shiftjis_whole : Determined 0 shiftjis-whole-kinds.ps shiftjis-whole-kinds.r shiftjis-whole-reads.Asked shiftjis-whole-reads.Learnt
shiftjis_whole = record { total = λ κs a. tt; one = λ κs a z z' w w' p q. (same p q, refl) }

pub shiftjis_own : DeterminedSeen 2 shiftjis-own-kinds.ps shiftjis-own-kinds.r shiftjis-own-reads.Asked shiftjis-own-reads.Learnt (λ κs. own_lists)
shiftjis_own = record { total = λ κs a. tt; one = λ κs a z z' w w' p q. (same p q, refl) }

pub shiftjis_pick : Determined 0 shiftjis-pick-kinds.ps shiftjis-pick-kinds.r shiftjis-pick-reads.Asked shiftjis-pick-reads.Learnt
shiftjis_pick = record { total = λ κs a. tt; one = λ κs a z z' w w' p q. (one_picked ShiftJis 8 one_shiftjis (λ m. refl) a.0 z z' p q, refl) }

pub shiftjis_run_over : Determined 3 shiftjis-run-over-kinds.ps shiftjis-run-over-kinds.r shiftjis-run-over-reads.Asked shiftjis-run-over-reads.Learnt
shiftjis_run_over = record { total = λ κs a. tt; one = λ κs a z z' w w' p q. (one_wrapped ShiftJis one_shiftjis z z' (same p.0 q.0), refl) }

pub shiftjis_close_over : Determined 2 shiftjis-close-over-kinds.ps shiftjis-close-over-kinds.r shiftjis-close-over-reads.Asked shiftjis-close-over-reads.Learnt
shiftjis_close_over = record { total = λ κs a. tt; one = λ κs a z z' w w' p q. (one_wrapped ShiftJis one_shiftjis z z' (same p.0 q.0), refl) }
