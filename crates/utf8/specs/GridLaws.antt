-- What holds of the grid: its states are the records that the kind can hold and one more, the test of all its entries says what
-- each of them is, and a byte leads where the step leads.
use Rattle.std.specs.Prelude.{◌≡◌, Bool, cond, ◌||◌, List, [], ◌∷◌, ℕ, zero, suc, ◌+◌, ◌-◌, ◌*◌, ◌/◌, ◌%◌, ◌<◌, ◌≤◌, T, eqb, leb, pos, length, get_or, take, drop, Ok, Err}
use Rattle.std.proofs.Math.Path.{refl, sym, ap}
use Rattle.std.proofs.Common.{◌∙◌, arith, eqb→eq, lt-ltb, leb-true, leb-false, ne_eqb}
use Rattle.std.proofs.Math.Bool.{true, false}
use Rattle.std.proofs.Math.Dec.{ltb}
use Rattle.std.proofs.lemmas.Bool.{eqb-false}
use Rattle.laws.specs.Limit.{limit}
use Rattle.laws.specs.Answer.{reached, if_unfit}
use Rattle.laws.specs.declared.Reason.TheVariants.{BadByte}
use Rattle.laws.specs.declared.Stop.TheVariants.{Dropped, Unfit}
use Rattle.laws.specs.Going.{Going, going_start, going_still, going_done}
use Rattle.laws.proofs.Going.{going_block, going_none, going_at}
use Rattle.laws.specs.Lists.{count}
use Rattle.laws.specs.Run.{Outcome, none, live, alive, with_byte, run, last_at, run_nil, run_turn, plus_zero}
use Rattle.laws.specs.Still.{run_first}
use Rattle.laws.specs.Table.{and_left, and_right, every, at}
use Rattle.laws.specs.Tests.{either}
use Rattle.octets.specs.Octets.{non_ascii}
use Rattle.context.specs.Head.{non_ascii_count}
use Rattle.utf8.specs.declared.Utf8.{Utf8}
use Rattle.utf8.specs.Utf8.{needs, fresh, Sound, plain, after_E0, after_ED, after_F0, after_F4, next_in, next_cut, sound_b, step_of, Ready, ready_b, ran_of}
use Rattle.utf8.specs.Utf8Laws.{lead_ascii, step_lead, sound_true, step_live, step_reason, ran_ready}
use Rattle.utf8.specs.Grid.{bad, last, Live, record_at, outcome_at, cut_state, state_of, state_after, entry_of, IsGrid, right_b, grid_b}

-- ---- states and records
-- a record that the kind can hold is the record of its state
abbrev Held : Utf8 → Type 0
Held m = Live (state_of m) × (record_at (state_of m) ≡ m)

plain_held : (n : ℕ) → n ≤ 3 → Held (needs n 0x80 0xBF)
unfolding state_of record_at next_in
plain_held zero h = ((omega arith, omega arith), refl)
plain_held (suc zero) h = ((omega arith, omega arith), refl)
plain_held (suc (suc zero)) h = ((omega arith, omega arith), refl)
plain_held (suc (suc (suc zero))) h = ((omega arith, omega arith), refl)
plain_held (suc (suc (suc (suc n)))) h = absurd (omega (arith, h))

pub held : (m : Utf8) → Sound m → Held m
unfolding state_of record_at next_in cut_state
held m (plain {n} h) = plain_held n h
held m after_E0 = ((omega arith, omega arith), refl)
held m after_ED = ((omega arith, omega arith), refl)
held m after_F0 = ((omega arith, omega arith), refl)
held m after_F4 = ((omega arith, omega arith), refl)

-- and the record of a state can be held, and has that number
abbrev Numbered : ℕ → Type 0
Numbered s = Sound (record_at s) × (state_of (record_at s) ≡ s)

pub numbered : (s : ℕ) → Live s → Numbered s
unfolding state_of record_at next_in cut_state
numbered zero h = absurd (omega (arith, h.0))
numbered (suc zero) h = (plain {n = 0} (omega arith), refl)
numbered (suc (suc zero)) h = (plain {n = 1} (omega arith), refl)
numbered (suc (suc (suc zero))) h = (plain {n = 2} (omega arith), refl)
numbered (suc (suc (suc (suc zero)))) h = (plain {n = 3} (omega arith), refl)
numbered (suc (suc (suc (suc (suc zero))))) h = (after_E0, refl)
numbered (suc (suc (suc (suc (suc (suc zero)))))) h = (after_ED, refl)
numbered (suc (suc (suc (suc (suc (suc (suc zero))))))) h = (after_F0, refl)
numbered (suc (suc (suc (suc (suc (suc (suc (suc zero)))))))) h = (after_F4, refl)
numbered (suc (suc (suc (suc (suc (suc (suc (suc (suc s))))))))) h = absurd (omega (arith, h.1))

-- the last one: past each of the seven before it
past : (n s : ℕ) → n ≤ s → (s ≡ n → ⊥) → n + 1 ≤ s
past n s h e = omega arith

eighth : (s : ℕ) → 8 ≤ s → s ≤ last → needs 3 0x80 0x8F ≡ record_at s
unfolding record_at
eighth s h k = let e : s ≡ 8 = omega arith in rw e

pub last_record : (s : ℕ) → Live s → (s ≡ 1 → ⊥) → (s ≡ 2 → ⊥) → (s ≡ 3 → ⊥) → (s ≡ 4 → ⊥) → (s ≡ 5 → ⊥) → (s ≡ 6 → ⊥) → (s ≡ 7 → ⊥) → needs 3 0x80 0x8F ≡ record_at s
last_record s h a b c d e f g = eighth s (past 7 s (past 6 s (past 5 s (past 4 s (past 3 s (past 2 s (past 1 s h.0 a) b) c) d) e) f) g) h.1

-- so the test of a record is a test of its state
module _ (m : Utf8) where
  cut_sound : (lo hi s : ℕ) → bad < s → next_cut m lo hi ≡ ltb bad (cut_state m lo hi s)
  unfolding next_cut cut_state
  cut_sound lo hi s h = cut_at (next_in m lo 0xBF) (next_in m 0x80 hi)
    where
      cut_at : (t u : Bool) → (t || u) ≡ ltb bad (cond t s (cond u (s + 1) bad))
      cut_at true u = sym (lt-ltb bad s h)
      cut_at false true = sym (lt-ltb bad (s + 1) (omega arith))
      cut_at false false = refl

  sound_at : (t u v w : Bool) → cond t w (cond u (next_cut m 0xA0 0x9F) (cond v (next_cut m 0x90 0x8F) false)) ≡ ltb bad (cond t (cond w (m.need + 1) bad) (cond u (cut_state m 0xA0 0x9F 5) (cond v (cut_state m 0x90 0x8F 7) bad)))
  sound_at true u v true = sym (lt-ltb bad (m.need + 1) (omega arith))
  sound_at true u v false = refl
  sound_at false true v w = cut_sound 0xA0 0x9F 5 (omega arith)
  sound_at false false true w = cut_sound 0x90 0x8F 7 (omega arith)
  sound_at false false false w = refl

  pub state_sound : sound_b m ≡ ltb bad (state_of m)
  unfolding sound_b state_of
  state_sound = sound_at (next_in m 0x80 0xBF) (eqb m.need 2) (eqb m.need 3) (leb m.need 3)

-- no state is past the last one
abbrev Most : ℕ → Type 0
Most s = s ≤ last

cut_most : (m : Utf8) (lo hi s : ℕ) → s < last → Most (cut_state m lo hi s)
unfolding cut_state
cut_most m lo hi s h = either Most (next_in m lo 0xBF) (λ e. omega arith) (λ e. either Most (next_in m 0x80 hi) (λ e. omega arith) (λ e. omega arith))

state_most : (m : Utf8) → Most (state_of m)
unfolding state_of
state_most m =
    either Most (next_in m 0x80 0xBF) (λ e. either Most (leb m.need 3) (λ f. omega (arith, leb-true m.need 3 f)) (λ f. omega arith))
    (λ e. either Most (eqb m.need 2) (λ e. cut_most m 0xA0 0x9F 5 (omega arith))
    (λ e. either Most (eqb m.need 3) (λ e. cut_most m 0x90 0x8F 7 (omega arith)) (λ e. omega arith)))

after_most : (o : Outcome Utf8) → Most (state_after o)
unfolding state_after
after_most (none d) = omega arith
after_most (live m s) = state_most m

pub entry_most : (s b : ℕ) → entry_of s b ≤ last
unfolding entry_of
entry_most s b = after_most (with_byte step_of (outcome_at s) b)

pub not_bad : (s : ℕ) → (s ≡ bad → ⊥) → bad < s
not_bad s e = omega arith

-- ---- a byte leads where the step leads
-- an outcome that a state stands for
abbrev Stood : Outcome Utf8 → Type 0
Stood (none d) = d ≡ BadByte
Stood (live m s) = Sound m × (s ≡ pos 0)

outcome_live : (s : ℕ) → bad < s → outcome_at s ≡ alive (record_at s)
unfolding outcome_at
outcome_live s h = rw (ne_eqb s bad (λ (e : s ≡ bad). omega arith))

outcome_bad : outcome_at bad ≡ none BadByte
unfolding outcome_at
outcome_bad = refl

stands : (o : Outcome Utf8) → Stood o → outcome_at (state_after o) ≡ o
unfolding state_after
stands (none d) e = outcome_bad ∙ ap none (sym e)
stands (live m s) p = let h = held m p.0 in outcome_live (state_of m) h.0.0 ∙ rw (h.1, p.1)

step_stood : (m : Utf8) (b : ℕ) → Sound m → (o : Outcome Utf8) → step_of m b ≡ o → Stood o
step_stood m b h (none d) e = step_reason m b d e
step_stood m b h (live n s) e = step_live m n b s h e

byte_stood : (s b : ℕ) → s ≤ last → Stood (with_byte step_of (outcome_at s) b)
unfolding with_byte outcome_at
byte_stood s b h = stood_at (eqb s bad) refl
  where
    stood_at : (t : Bool) → eqb s bad ≡ t → Stood (with_byte step_of (cond t (none BadByte) (alive (record_at s))) b)
    stood_at true e = refl
    stood_at false e = rw plus_zero (step_stood (record_at s) b (numbered s (not_bad s (eqb-false s bad e), h)).0 (step_of (record_at s) b) refl)

pub leads : (s b : ℕ) → s ≤ last → outcome_at (entry_of s b) ≡ with_byte step_of (outcome_at s) b
unfolding entry_of
leads s b h = stands (with_byte step_of (outcome_at s) b) (byte_stood s b h)

-- a turn of a loop over the bytes, by the entry that was read
pub turn_state : (xs : List ℕ) (i s r : ℕ) → s ≤ last → i < length xs → r ≡ entry_of s (get_or xs i 0) → run step_of (outcome_at r) (drop (i + 1) xs) ≡ run step_of (outcome_at s) (drop i xs)
turn_state xs i s r k h e = ap (λ (o : Outcome Utf8). run step_of o (drop (i + 1) xs)) (ap outcome_at e ∙ leads s (get_or xs i 0) k) ∙ sym (run_turn step_of (outcome_at s) xs i h)

-- from a state that has a record, by the entry that was read
module _ (s b r : ℕ) (h : Live s) (e : r ≡ entry_of s b) where
  step_entry : step_of (record_at s) b ≡ outcome_at r
  unfolding with_byte
  step_entry = sym (ap outcome_at e ∙ (leads s b h.1 ∙ (ap (λ (o : Outcome Utf8). with_byte step_of o b) (outcome_live s h.0) ∙ plus_zero (step_of (record_at s) b))))

  step_bad : r ≡ bad → step_of (record_at s) b ≡ none BadByte
  step_bad f = step_entry ∙ (ap outcome_at f ∙ outcome_bad)

  entry_live : (r ≡ bad → ⊥) → Live r
  entry_live f = (not_bad r f, rw e (entry_most s b))

  step_on : (r ≡ bad → ⊥) → step_of (record_at s) b ≡ alive (record_at r)
  step_on f = step_entry ∙ outcome_live r (not_bad r f)

-- ---- a run over the grid: after i bytes of xs, which were all taken, the state is s
pub record On (from : ℕ) (xs : List ℕ) (s i : ℕ) : Type 0 where
  pub live : Live s
  pub going : Going step_of (λ (n : ℕ). Sound) 0 0 (record_at from) xs i (record_at s) (pos 0)

module _ {from : ℕ} {xs : List ℕ} where
  pub on_start : Live from → On from xs from 0
  on_start h = record { live = h; going = going_start (numbered from h).0 }

  module _ {s i : ℕ} (on : On from xs s i) where
    -- a block at once, of which no byte is bad
    pub on_block : (e r : ℕ) → i ≤ e → e ≤ length xs → r ≤ last → (r ≡ bad → ⊥) → outcome_at r ≡ run step_of (outcome_at s) (take (e - i) (drop i xs)) → On from xs r e
    on_block e r p q h f g =
        let there : Live r = (not_bad r f, h) in
        let gave = ap (λ (o : Outcome Utf8). run step_of o (take (e - i) (drop i xs))) (sym (outcome_live s on.live.0)) ∙ (sym g ∙ outcome_live r (not_bad r f)) in
        record { live = there; going = going_block on.going e p q gave (numbered r there).0 }

    module _ (h : i < length xs) (r : ℕ) (e : r ≡ entry_of s (get_or xs i 0)) where
      pub on_byte : (r ≡ bad → ⊥) → On from xs r (i + 1)
      on_byte f =
          let there = entry_live s (get_or xs i 0) r on.live e f in
          record { live = there; going = going_still on.going h (step_on s (get_or xs i 0) r on.live e f) ((numbered r there).0, refl) }

      pub on_bad : r ≡ bad → Err (Dropped BadByte i) ≡ reached (last_at step_of (alive (record_at from)) xs) (run step_of (alive (record_at from)) xs)
      on_bad f =
          let gave = step_bad s (get_or xs i 0) r on.live e f in
          ap (λ (n : ℕ). Err (Dropped BadByte n)) (going_at on.going h gave) ∙ ap (reached (last_at step_of (alive (record_at from)) xs)) (going_none on.going h gave)

    pub on_done : length xs ≤ i → Ok (record_at s) ≡ reached (last_at step_of (alive (record_at from)) xs) (run step_of (alive (record_at from)) xs)
    on_done h = ap (reached (last_at step_of (alive (record_at from)) xs)) (going_done on.going h)

-- ---- the test of all entries, carried to each
pub is_grid : (grid : List ℕ) → T (grid_b grid) → IsGrid grid
is_grid grid t = record { whole = long; entries = entry }
  where
    long : length grid ≡ 2304
    long = eqb→eq _ _ (and_left (eqb (length grid) 2304) _ t)

    entry : (s b : ℕ) → s ≤ last → b < 256 → get_or grid (256 * s + b) 0 ≡ entry_of s b
    entry s b h k =
        let row : (256 * s + b) / 256 ≡ s = omega arith in
        let column : (256 * s + b) % 256 ≡ b = omega arith in
        let read = at right_b 0 grid (and_right (eqb (length grid) 2304) (every right_b 0 grid) t) (256 * s + b) (omega (arith, long)) in
        rw (row, column) at (eqb→eq (get_or grid (256 * s + b) 0) (entry_of ((256 * s + b) / 256) ((256 * s + b) % 256)) read)

-- ---- ASCII between two sequences changes nothing
ascii_at : (b : ℕ) (bs : List ℕ) (t : Bool) → non_ascii b ≡ t → cond t 1 0 + non_ascii_count bs ≡ 0 → (non_ascii_count bs ≡ 0 → run step_of (alive fresh) bs ≡ alive fresh) → run step_of (alive fresh) (b ∷ bs) ≡ alive fresh
ascii_at b bs true f n rest = absurd (omega (arith, n))
ascii_at b bs false f n rest = run_first step_of fresh fresh b bs (sym (step_lead fresh b refl) ∙ sym (lead_ascii b (leb-false 0x80 b f))) ∙ rest (omega (arith, n))

ascii_run : (xs : List ℕ) → non_ascii_count xs ≡ 0 → run step_of (alive fresh) xs ≡ alive fresh
unfolding count
ascii_run [] e = run_nil step_of (alive fresh)
ascii_run (b ∷ bs) e = ascii_at b bs (non_ascii b) refl e (ascii_run bs)

-- ---- each way through a stretch, by the state of the record
module _ (m : Utf8) (s : ℕ) (e : s ≡ state_of m) where
  pub ran_bad : (xs : List ℕ) → s ≡ bad → Err Unfit ≡ ran_of m xs
  unfolding ran_of ready_b
  ran_bad xs f =
      let q : sound_b m ≡ false = state_sound m ∙ ap (λ (k : ℕ). ltb bad k) (sym e ∙ f) in
      sym (if_unfit _ _ (rw q))

  module _ (f : s ≡ bad → ⊥) where
    pub state_live : Live s
    state_live = (not_bad s f, rw e (state_most m))

    fit : Sound m
    fit = sound_true m (state_sound m ∙ lt-ltb bad (state_of m) (rw e at (not_bad s f)))

    record_is : record_at s ≡ m
    record_is = rw e (held m fit).1

    module _ (xs : List ℕ) (short : length xs ≤ limit) where
      ready : Ready m xs
      ready = record { sound = fit; short = short }

      pub ran_state : reached (last_at step_of (alive (record_at s)) xs) (run step_of (alive (record_at s)) xs) ≡ ran_of m xs
      ran_state = rw record_is (sym (ran_ready m xs ready))

      pub ran_ascii : s ≡ 1 → non_ascii_count xs ≡ 0 → Ok fresh ≡ ran_of m xs
      unfolding record_at
      ran_ascii z q =
          let k : fresh ≡ m = ap record_at (sym z) ∙ record_is in
          sym (ran_ready m xs ready ∙ (rw (← k) (ap (reached (last_at step_of (alive fresh) xs)) (ascii_run xs q))))
