-- Each public function's contract asks nothing and determines what the page holds.
use Rattle.std.proofs.Common.{refl, ap}
use Rattle.laws.specs.Determined.{Determined, same}
use Rattle.scribe.specs.declared.page.Page.{Page}
use Rattle.label.proofs.answer.Kinds as answer-kinds
use Rattle.label.proofs.answer.Reads as answer-reads
use Rattle.label.proofs.fed.Kinds as fed-kinds
use Rattle.label.proofs.fed.Reads as fed-reads

pub fed : Determined 1 fed-kinds.ps fed-kinds.r fed-reads.Asked fed-reads.Learnt
fed = record { total = λ κs a. tt; one = λ κs a z z' w w' p q. (same p q, refl) }

pub answer : Determined 3 answer-kinds.ps answer-kinds.r answer-reads.Asked answer-reads.Learnt
answer = record { total = λ κs a. tt; one = λ κs a z z' w w' p q. (refl, ap (λ (s : Page). (tt, (s, tt))) (same p q)) }
