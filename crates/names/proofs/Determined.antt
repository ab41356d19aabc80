-- Each contract of a public function that writes to a page asks nothing and determines what the page holds.
use Rattle.std.proofs.Common.{refl, ap}
use Rattle.laws.specs.Determined.{Determined, same}
use Rattle.scribe.specs.declared.page.Page.{Page}
use Rattle.names.proofs.place.Kinds as place-kinds
use Rattle.names.proofs.place.Reads as place-reads
use Rattle.names.proofs.reason.Kinds as reason-kinds
use Rattle.names.proofs.reason.Reads as reason-reads

pub place : Determined 2 place-kinds.ps place-kinds.r place-reads.Asked place-reads.Learnt
place = record { total = λ κs a. tt; one = λ κs a z z' w w' p q. (refl, ap (λ (s : Page). (s, (tt, tt))) (same p q)) }

pub reason : Determined 2 reason-kinds.ps reason-kinds.r reason-reads.Asked reason-reads.Learnt
reason = record { total = λ κs a. tt; one = λ κs a z z' w w' p q. (refl, ap (λ (s : Page). (s, (tt, tt))) (same p q)) }
