-- Each public function's contract asks nothing and determines what the page holds.
use Rattle.std.proofs.Common.{refl, ap}
use Rattle.laws.specs.Determined.{Determined, same}
use Rattle.scribe.specs.declared.page.Page.{Page}
use Rattle.account.proofs.answer.Kinds as answer-kinds
use Rattle.account.proofs.answer.Reads as answer-reads
use Rattle.account.proofs.write.Kinds as write-kinds
use Rattle.account.proofs.write.Reads as write-reads

pub write : Determined 3 write-kinds.ps write-kinds.r write-reads.Asked write-reads.Learnt
write = record { total = λ κs a. tt; one = λ κs a z z' w w' p q. (refl, ap (λ (s : Page). (s, (tt, (tt, tt)))) (same p q)) }

pub answer : Determined 3 answer-kinds.ps answer-kinds.r answer-reads.Asked answer-reads.Learnt
answer = record { total = λ κs a. tt; one = λ κs a z z' w w' p q. (refl, ap (λ (s : Page). (tt, (s, tt))) (same p q)) }
