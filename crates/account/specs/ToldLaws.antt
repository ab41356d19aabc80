-- Of a file whose bytes a state in order has accepted: a drop-out by a byte after the head is told by a byte of the file, and that is
-- the byte at which the run over the part ended; a class 255 is told so too, or by the file's end.
use Rattle.std.specs.Prelude.{◌≡◌, Bool, true, not, ◌&&◌, ◌||◌, List, leb, length, get_or, drop}
use Rattle.std.proofs.Math.Path.{refl}
use Rattle.std.proofs.Common.{ap, sym, ◌∙◌, arith, length-drop, get_or-drop, leb-true}
use Prim.Native.Nat.{ℕ, suc, ◌+◌, ◌-◌, ◌≤◌, ◌<◌}
use Rattle.std.proofs.Math.Dec.{eqb}
use Rattle.laws.specs.Tests.{both, either}
use Rattle.laws.specs.declared.Reason.{Reason}
use Rattle.laws.specs.declared.Reason.TheVariants.{Class255, BadByte, BadSecondByte, BrokenEscape, CutAtClose, NotInSlate}
use Rattle.spot.specs.PlaceLaws.{byte_told, byte_in_file}
use Rattle.spot.specs.Spot.{byte_text, at_place_text, where_text}
use Rattle.kinds.specs.Kinds.{is_single}
use Rattle.places.specs.Order.{spaced_of, dropped_b}
use Rattle.places.specs.Place.{byte_at}
use Rattle.state.specs.Order.{InOrder}
use Rattle.state.specs.State.{triggered}
use Rattle.state.specs.declared.State.{State}
use Rattle.account.specs.Account.{head_length}

-- the reasons that a decoder gives at a byte
abbrev pub AtByte : Reason → Type 0
AtByte Class255 = ⊥
AtByte BadByte = Unit {0}
AtByte BadSecondByte = Unit {0}
AtByte BrokenEscape = Unit {0}
AtByte CutAtClose = ⊥
AtByte NotInSlate = ⊥

module _ (file : List ℕ) (s : State) (order : InOrder s) (whole : s.front.bytes ≡ length file) where
  abbrev body : ℕ
  body = s.front.body

  abbrev head : ℕ
  head = head_length s.front

  -- what a place without a score carries, as the state's order has it
  abbrev Dropped : ℕ → Reason → ℕ → Type 0
  Dropped k d at = dropped_b body s.front.closed (triggered s.front) k d at ≡ true

  after_head : head ≡ length file - body
  unfolding head_length
  after_head = rw whole

  within : body ≤ length file
  within = omega (arith, order.front.bodied)

  -- the last of three tests
  last : (b : Bool) (m n : ℕ) → (triggered s.front && (b && leb m n)) ≡ true → m ≤ n
  last b m n e = leb-true m n (both b (leb m n) (both (triggered s.front) (b && leb m n) e).1).1

  -- its place is at most the count
  low : (k : ℕ) (d : Reason) (n : ℕ) → AtByte d → Dropped k d (suc n) → n < body
  unfolding dropped_b
  low k Class255 n b e = absurd b
  low k BadByte n b e = last (not (is_single k)) (suc n) body e
  low k BadSecondByte n b e = last (eqb k 2 || eqb k 3) (suc n) body e
  low k BrokenEscape n b e = last (eqb k 1) (suc n) body e
  low k CutAtClose n b e = absurd b
  low k NotInSlate n b e = absurd b

  at_place : (d : Reason) (at : ℕ) → AtByte d → where_text file head d at ≡ at_place_text file head at
  unfolding where_text
  at_place Class255 at b = absurd b
  at_place BadByte at b = refl
  at_place BadSecondByte at b = refl
  at_place BrokenEscape at b = refl
  at_place CutAtClose at b = absurd b
  at_place NotInSlate at b = absurd b

  pub told_by_byte : (k : ℕ) (d : Reason) (n : ℕ) → AtByte d → Dropped k d (suc n) → (head + n < length file) × (where_text file head d (suc n) ≡ byte_text file (head + n))
  told_by_byte k d n b e =
      let l = low k d n b e in
      rw (at_place d (suc n) b, after_head) (byte_in_file file body n within l, byte_told file body n within l)

  pub class_told : (k n : ℕ) → Dropped k Class255 (suc n) → n ≤ body
  unfolding dropped_b
  class_told k n e =
      let h = last (is_single k) (suc n) (spaced_of body s.front.closed) e in
      either (λ (m : ℕ). suc n ≤ m → n ≤ body) s.front.closed (λ q r. omega (arith, r)) (λ q r. omega (arith, r)) h

  -- the marked byte is the one at which the run over the part, the file's rest from j on, ended
  pub same_byte : (j at n : ℕ) → byte_at body (drop j file) at ≡ suc n → 1 ≤ at → at ≤ length (drop j file) → get_or file (head + n) 0 ≡ get_or (drop j file) (at - 1) 0
  same_byte j at n e low high =
      let l = length-drop j file in
      let i : head + n ≡ j + (at - 1) = omega (arith, after_head, within) in
      ap (λ (k : ℕ). get_or file k 0) i ∙ sym (get_or-drop j file (at - 1) 0)
