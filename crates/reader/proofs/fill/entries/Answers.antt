-- `entries` meets its contract.
use Rattle.std.proofs.Common.{◌≡◌, ℕ, ◌+◌, ◌-◌, ◌≤◌, ◌<◌, List, length, take, drop, set, arith, sym, ◌∙◌, length-drop}
use Rattle.std.proofs.Math.Seq.{take_all}
use Rattle.std.proofs.lemmas.List.{set-get_or}
use Rattle.reader.specs.FillLaws.{so_far, fill_turn, fill_short, fill_done}
use Rattle.reader.proofs.fill.entries.Goals as goal

turn : {A : Type 0} (k : ℕ) (f : List ℕ → A) (xs : List ℕ) (to : List A) (i s : ℕ) (v : A) → s ≡ k → i < length to → s ≤ length xs → v ≡ f xs → so_far k f (take (length xs - s) (drop s xs)) 0 (set to i v) (i + 1) ≡ so_far k f xs 0 to i
turn k f xs to i s v e h m w =
    let r : take (length xs - s) (drop s xs) ≡ drop s xs = take_all (length xs - s) (drop s xs) (omega (arith, length-drop s xs)) in
    let z : 0 + k ≡ s = omega arith in
    rw r (rw z at (fill_turn k f xs 0 to i v h (omega arith) w))

pub loop-entry-preserved : goal.loop-entry-preserved
loop-entry-preserved g c =
    let n = g.T.Number in
    let l = c.loop-entry in
    turn n.SIZE n.head l.left.now l.to l.entry-index c.SIZE-in-loop-entry.result c.first.result c.SIZE-in-loop-entry.ensures (omega arith) (omega arith) c.first.ensures ∙ l.invariant

pub returns-then-left-SIZE : goal.returns-then-left-SIZE
returns-then-left-SIZE g c =
    let n = g.T.Number in
    let l = c.loop-entry in
    set-get_or l.to l.entry-index c.entry-item.result ∙ (sym (fill_short n.SIZE n.head l.left.now 0 l.to l.entry-index (omega arith)) ∙ l.invariant)

pub returns : goal.returns
returns g c = let n = g.T.Number in let l = c.loop-entry in sym (fill_done n.SIZE n.head l.left.now 0 l.to l.entry-index (omega arith)) ∙ l.invariant
