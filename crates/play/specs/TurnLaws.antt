-- The state after a command that was read, and after one command more. A chunk as it is cut out of the window is the one among the bytes at hand.
use Rattle.std.specs.Prelude.{◌≡◌, Bool, ℕ, zero, suc, ◌+◌, ◌-◌, ◌≤◌, length, take, drop}
use Rattle.std.proofs.Math.Path.{refl}
use Rattle.std.proofs.Common.{sym, ap, subst, ◌∙◌, arith, length-take, length-drop, take-take, drop-drop}
use mathlib.Core.List.{List, [], ◌∷◌, ◌++◌}
use Rattle.tables.specs.Tables.{Tables}
use Rattle.state.specs.declared.State.{State}
use Rattle.detector.specs.Feed.{feed_of}
use Rattle.detector.specs.declared.feed.Fed.{Fed}
use Rattle.reader.specs.Command.{read_of}
use Rattle.reader.specs.CommandLaws.{room}
use Rattle.reader.specs.declared.command.Command.{Command}
use Rattle.reader.specs.declared.command.Command.TheVariants.{Feed}
use Rattle.play.specs.Turn.{at_hand, state_by, state_after, played, Played}
use Rattle.play.specs.Within.{Within}
use Rattle.play.specs.declared.input.Span.{Span}

part_of : {A : Type 0} (i n m : ℕ) (l : List A) → i + n ≤ m → take n (drop i (take m l)) ≡ take n (drop i l)
part_of zero n m l h = take-take n m l (omega (arith, h))
part_of (suc i) n zero l h = absurd (omega (arith, h))
part_of (suc i) n (suc m) [] h = refl
part_of (suc i) n (suc m) (x ∷ l) h = part_of i n m l (omega (arith, h))

-- what is found among the bytes at hand ends with them
pub within_hand : (w : List ℕ) (h : Span) (k : ℕ) → Within (length w) h → k ≤ length (at_hand w h) → h.at + k ≤ h.end
within_hand w h k i l = omega (arith, i.begun, i.ended, simp (length-take, length-drop) at l)

module _ (t : Tables) (s : State) where
  -- `&window[from..from + n]`
  pub fed_part : (w : List ℕ) (from n : ℕ) (last : Bool) (f : Fed) → f ≡ feed_of t s (take (from + n - from) (drop from w)) last → f.state ≡ (feed_of t s (take n (drop from w)) last).state
  fed_part w from n last f e =
      let k : from + n - from ≡ n = omega arith in
      ap (λ (d : Fed). d.state) e ∙ ap (λ (m : ℕ). (feed_of t s (take m (drop from w)) last).state) k

  pub after_read : (xs : List ℕ) (c : Command) (r : State) → c ≡ read_of xs → r ≡ state_by t s xs c → r ≡ state_after t s xs
  after_read xs c r e f = f ∙ ap (state_by t s xs) e

  pub after_feed : (w : List ℕ) (h : Span) (last : Bool) (n : ℕ) (r : State) → Within (length w) h → Feed last n ≡ read_of (at_hand w h) → r ≡ (feed_of t s (take n (drop (h.at + 6) w)) last).state → r ≡ state_after t s (at_hand w h)
  after_feed w h last n r i e f =
      let b = within_hand w h (6 + n) i (room (at_hand w h) (Feed last n) e) in
      let q = ap (take n) (sym (drop-drop 6 h.at w)) ∙ sym (part_of 6 n (h.end - h.at) (drop h.at w) (omega (arith, b))) in
      after_read (at_hand w h) (Feed last n) r e (f ∙ ap (λ (xs : List ℕ). (feed_of t s xs last).state) q)

-- ---- one command after the other
module _ (t : Tables) where
  one_more : (s : State) (xs : List ℕ) (hands : List (List ℕ)) → played t s (hands ++ (xs ∷ [])) ≡ state_after t (played t s hands) xs
  unfolding played
  one_more s xs [] = refl
  one_more s xs (ys ∷ hands) = one_more (state_after t s ys) xs hands

  pub played_none : (s r : State) → r ≡ s → Played t s r
  unfolding played
  played_none s r e = record { hands = []; led = e }

  pub played_more : (s q r : State) (xs : List ℕ) → Played t s q → r ≡ state_after t q xs → Played t s r
  played_more s q r xs p e =
      record { hands = p.hands ++ (xs ∷ []); led = e ∙ (ap (λ (z : State). state_after t z xs) p.led ∙ sym (one_more s xs p.hands)) }

  pub played_from : (s q r : State) → q ≡ s → Played t q r → Played t s r
  played_from s q r e p = subst (λ (z : State). Played t z r) e p
