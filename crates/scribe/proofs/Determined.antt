-- Each public function's contract asks nothing and determines the reply, what the page and its buffer hold, and what is left in a buffer given back.
use Rattle.std.proofs.Common.{List, ℕ, refl, ap}
use Rattle.laws.specs.Determined.{Determined, DeterminedSeen, same}
use Rattle.scribe.specs.PageLaws.{alike}
use Rattle.scribe.specs.declared.page.Page.{Page}
use Rattle.scribe.proofs.page.Page.new.Kinds as new-kinds
use Rattle.scribe.proofs.page.Page.new.Reads as new-reads
use Rattle.scribe.proofs.page.Page.byte.Kinds as byte-kinds
use Rattle.scribe.proofs.page.Page.byte.Reads as byte-reads
use Rattle.scribe.proofs.page.Page.word.Kinds as word-kinds
use Rattle.scribe.proofs.page.Page.word.Reads as word-reads
use Rattle.scribe.proofs.page.Page.hex.Kinds as hex-kinds
use Rattle.scribe.proofs.page.Page.hex.Reads as hex-reads
use Rattle.scribe.proofs.page.Page.flag.Kinds as flag-kinds
use Rattle.scribe.proofs.page.Page.flag.Reads as flag-reads
use Rattle.scribe.proofs.page.Page.decimal.Kinds as decimal-kinds
use Rattle.scribe.proofs.page.Page.decimal.Reads as decimal-reads
use Rattle.scribe.proofs.page.Page.signed.Kinds as signed-kinds
use Rattle.scribe.proofs.page.Page.signed.Reads as signed-reads
use Rattle.scribe.proofs.page.PageAsSliceU8.as_slice.Kinds as as-slice-kinds
use Rattle.scribe.proofs.page.PageAsSliceU8.as_slice.Reads as as-slice-reads
use Rattle.scribe.proofs.page.Page.end.Kinds as end-kinds
use Rattle.scribe.proofs.page.Page.end.Reads as end-reads
use Rattle.scribe.proofs.page.word.Kinds as word-into-kinds
use Rattle.scribe.proofs.page.word.Reads as word-into-reads

pub new : Determined 1 new-kinds.ps new-kinds.r new-reads.Asked new-reads.Learnt
new = record { total = λ κs a. tt; one = λ κs a z z' w w' p q. (same p q, refl) }

pub byte : Determined 2 byte-kinds.ps byte-kinds.r byte-reads.Asked byte-reads.Learnt
byte = record { total = λ κs a. tt; one = λ κs a z z' w w' p q. (refl, ap (λ (s : Page). (s, (tt, tt))) (same p q)) }

pub word : Determined 3 word-kinds.ps word-kinds.r word-reads.Asked word-reads.Learnt
word = record { total = λ κs a. tt; one = λ κs a z z' w w' p q. (refl, ap (λ (s : Page). (s, (tt, tt))) (same p q)) }

pub hex : Determined 2 hex-kinds.ps hex-kinds.r hex-reads.Asked hex-reads.Learnt
hex = record { total = λ κs a. tt; one = λ κs a z z' w w' p q. (refl, ap (λ (s : Page). (s, (tt, tt))) (same p q)) }

pub flag : Determined 2 flag-kinds.ps flag-kinds.r flag-reads.Asked flag-reads.Learnt
flag = record { total = λ κs a. tt; one = λ κs a z z' w w' p q. (refl, ap (λ (s : Page). (s, (tt, tt))) (same p q)) }

pub decimal : Determined 2 decimal-kinds.ps decimal-kinds.r decimal-reads.Asked decimal-reads.Learnt
decimal = record { total = λ κs a. tt; one = λ κs a z z' w w' p q. (refl, ap (λ (s : Page). (s, (tt, tt))) (same p q)) }

pub signed : Determined 2 signed-kinds.ps signed-kinds.r signed-reads.Asked signed-reads.Learnt
signed = record { total = λ κs a. tt; one = λ κs a z z' w w' p q. (refl, ap (λ (s : Page). (s, (tt, tt))) (same p q)) }

pub as_slice : DeterminedSeen 2 as-slice-kinds.ps as-slice-kinds.r as-slice-reads.Asked as-slice-reads.Learnt (λ κs s. s.now)
as_slice = record { total = λ κs a. tt; one = λ κs a z z' w w' p q. (same p q, refl) }

pub end : Determined 1 end-kinds.ps end-kinds.r end-reads.Asked end-reads.Learnt
end = record { total = λ κs a. tt; one = λ κs a z z' w w' p q. let s = alike p q in (s.0, ap (λ (l : List ℕ). ((l, tt), tt)) s.1) }

pub word_into : Determined 2 word-into-kinds.ps word-into-kinds.r word-into-reads.Asked word-into-reads.Learnt
word_into = record { total = λ κs a. tt; one = λ κs a z z' w w' p q. let s = alike p q in (s.0, ap (λ (l : List ℕ). (l, (tt, (tt, tt)))) s.1) }
