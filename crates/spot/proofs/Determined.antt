-- The public function's contract asks nothing and determines what the page holds.
use Rattle.std.proofs.Common.{refl, ap}
use Rattle.laws.specs.Determined.{Determined, same}
use Rattle.scribe.specs.declared.page.Page.{Page}
use Rattle.spot.proofs.dropped.Kinds as dropped-kinds
use Rattle.spot.proofs.dropped.Reads as dropped-reads

pub dropped : Determined 3 dropped-kinds.ps dropped-kinds.r dropped-reads.Asked dropped-reads.Learnt
dropped = record { total = λ κs a. tt; one = λ κs a z z' w w' p q. (refl, ap (λ (s : Page). (s, (tt, (tt, (tt, tt))))) (same p q)) }
