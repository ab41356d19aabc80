-- Each public function's contract asks nothing and determines what the page holds.
use Rattle.std.proofs.Common.{refl, ap}
use Rattle.laws.specs.Determined.{Determined, same}
use Rattle.scribe.specs.declared.page.Page.{Page}
use Rattle.sheet.proofs.leader_line.Kinds as leader-line-kinds
use Rattle.sheet.proofs.leader_line.Reads as leader-line-reads
use Rattle.sheet.proofs.write.Kinds as write-kinds
use Rattle.sheet.proofs.write.Reads as write-reads

pub leader_line_lem : Determined 2 leader-line-kinds.ps leader-line-kinds.r leader-line-reads.Asked leader-line-reads.Learnt
leader_line_lem = record { total = λ κs a. tt; one = λ κs a z z' w w' p q. (refl, ap (λ (s : Page). (s, (tt, tt))) (same p q)) }

pub write : Determined 2 write-kinds.ps write-kinds.r write-reads.Asked write-reads.Learnt
write = record { total = λ κs a. tt; one = λ κs a z z' w w' p q. (refl, ap (λ (s : Page). (s, (tt, tt))) (same p q)) }
