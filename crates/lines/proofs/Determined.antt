-- Each public function's contract asks nothing and determines what the page holds.
use Rattle.std.proofs.Common.{refl, ap}
use Rattle.laws.specs.Determined.{Determined, same}
use Rattle.scribe.specs.declared.page.Page.{Page}
use Rattle.lines.proofs.show.place.Kinds as place-kinds
use Rattle.lines.proofs.show.place.Reads as place-reads
use Rattle.lines.proofs.show.reply.Kinds as reply-kinds
use Rattle.lines.proofs.show.reply.Reads as reply-reads
use Rattle.lines.proofs.show.start.Kinds as start-kinds
use Rattle.lines.proofs.show.start.Reads as start-reads
use Rattle.lines.proofs.show.state.Kinds as state-kinds
use Rattle.lines.proofs.show.state.Reads as state-reads

pub reply : Determined 2 reply-kinds.ps reply-kinds.r reply-reads.Asked reply-reads.Learnt
reply = record { total = λ κs a. tt; one = λ κs a z z' w w' p q. (refl, ap (λ (s : Page). (s, (tt, tt))) (same p q)) }

pub start : Determined 2 start-kinds.ps start-kinds.r start-reads.Asked start-reads.Learnt
start = record { total = λ κs a. tt; one = λ κs a z z' w w' p q. (refl, ap (λ (s : Page). (s, (tt, tt))) (same p q)) }

pub place : Determined 2 place-kinds.ps place-kinds.r place-reads.Asked place-reads.Learnt
place = record { total = λ κs a. tt; one = λ κs a z z' w w' p q. (refl, ap (λ (s : Page). (s, (tt, tt))) (same p q)) }

pub state : Determined 2 state-kinds.ps state-kinds.r state-reads.Asked state-reads.Learnt
state = record { total = λ κs a. tt; one = λ κs a z z' w w' p q. (refl, ap (λ (s : Page). (s, (tt, tt))) (same p q)) }
