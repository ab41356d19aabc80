-- Privacy of the head (demand 3), the statement: what two streams must have in common, and in what their states then agree.
use Rattle.std.specs.Prelude.{◌≡◌, Bool, true, false, ◌⊎◌, ℕ, ◌%◌, ◌≤◌, eqb, length, get_or}
use mathlib.Core.List.{List, [], ◌∷◌, map, flatten}
use Rattle.laws.specs.Each.{EachFrom}
use Rattle.laws.specs.Lists.{any, last}
use Rattle.octets.specs.Octets.{ascii}
use Rattle.context.specs.Head.{head_of}
use Rattle.single.specs.Class.{alphabetic_of}
use Rattle.tables.specs.Tables.{Single, Tables}
use Rattle.kinds.specs.Plain.{is_shift}
use Rattle.places.specs.declared.place.Place.{Place}
use Rattle.state.specs.Leader.{leader_of}
use Rattle.state.specs.Reply.{number_of}
use Rattle.state.specs.State.{start_of}
use Rattle.state.specs.declared.State.{State}
use Rattle.detector.specs.Feed.{feed_of}
use Rattle.detector.specs.Stream.{rest_of}

-- ---- a stream is a list of calls, so that its cuts are visible
pub record Call : Type 0 where
  pub chunk : List ℕ
  pub is_last : Bool

abbrev pub call : List ℕ → Bool → Call
call xs l = record { chunk = xs; is_last = l }

-- what one call leaves, and all of them, each over the same lent data
abbrev pub state_after : Tables → State → Call → State
state_after t s c = (feed_of t s c.chunk c.is_last).state

unfoldable pub after_calls : Tables → State → List Call → State
after_calls t s [] = s
after_calls t s (c ∷ cs) = after_calls t (state_after t s c) cs

-- reply 0
abbrev pub Accepted : Tables → State → Call → Type 0
Accepted t s c = number_of (feed_of t s c.chunk c.is_last).reply ≡ 0

abbrev pub AllAccepted : Tables → State → List Call → Type 0
AllAccepted t s [] = Unit {0}
AllAccepted t s (c ∷ cs) = Accepted t s c × AllAccepted t (state_after t s c) cs

-- from the start that these bits name, every call is accepted, and the stream is closed
pub record ClosedStream (t : Tables) (bits : ℕ) (calls : List Call) : Type 0 where
  pub accepted : AllAccepted t (start_of bits) calls
  pub closed : (after_calls t (start_of bits) calls).front.closed ≡ true

-- ---- its bytes, without the cuts, split at the first non-ASCII byte or escape
abbrev pub chunks_of : List Call → List (List ℕ)
chunks_of calls = map (λ (c : Call). c.chunk) calls

abbrev pub stream_of : List Call → List ℕ
stream_of calls = flatten (chunks_of calls)

-- ---- the premises on heads and tables
-- both have two bytes or more, and the same last two
pub record SameEnd (one two : List ℕ) : Type 0 where
  pub one_long : 2 ≤ length one
  pub two_long : 2 ≤ length two
  pub ends : last 2 one ≡ last 2 two

-- of each of the four class tables, with the marks beside it
abbrev pub InEach : (Single → Type 0) → Tables → Type 0
InEach P t = EachFrom (λ (k : ℕ) (s : Single). P s) 4 (t.caseless ∷ t.logical ∷ t.visual ∷ t.arabic_french ∷ [])

abbrev pub No255 : Single → Type 0
No255 s = (b : ℕ) → ascii b ≡ true → eqb (get_or s.classes b 0) 255 ≡ false

abbrev pub NoLetter : Single → Type 0
NoLetter s = (b : ℕ) → ascii b ≡ true → alphabetic_of s.marks (get_or s.classes b 0 % 128) ≡ false

abbrev pub NoShift : List ℕ → Type 0
NoShift head = any is_shift head ≡ false

-- ---- all premises
pub record Premises (t : Tables) (bits : ℕ) (one two : List Call) : Type 0 where
  -- two closed streams from one start over the same lent data, each cut into chunks as it likes
  pub one_closed : ClosedStream t bits one
  pub two_closed : ClosedStream t bits two
  -- which agree from the end of the head on
  pub rests : rest_of (stream_of one) ≡ rest_of (stream_of two)
  -- the heads are equal, or both have at least two bytes and the same last two
  pub heads : (head_of (stream_of one) ≡ head_of (stream_of two)) ⊎ SameEnd (head_of (stream_of one)) (head_of (stream_of two))
  -- no ASCII byte has class 255 ..
  pub no_255 : InEach No255 t
  -- .. or an alphabetic class in any of the four class tables
  pub no_letter : InEach NoLetter t
  -- neither head contains 0E or 0F
  pub one_shiftless : NoShift (head_of (stream_of one))
  pub two_shiftless : NoShift (head_of (stream_of two))

-- ---- what agrees
pub record Agree (one two : State) : Type 0 where
  -- every place's score, or for what reason and at which byte it has none
  pub scores : (k : ℕ) (d : Place) → (get_or one.places k d).score ≡ (get_or two.places k d).score
  -- every place's record
  pub records : (k : ℕ) (d : Place) → (get_or one.places k d).machine ≡ (get_or two.places k d).machine
  -- the non-ASCII count
  pub count : one.front.non_ascii_seen ≡ two.front.non_ascii_seen
  -- the leader
  pub leader : leader_of one ≡ leader_of two

abbrev pub Privacy : Type 0
Privacy = (t : Tables) (bits : ℕ) (one two : List Call) → Premises t bits one two → Agree (after_calls t (start_of bits) one) (after_calls t (start_of bits) two)

-- ---- any two cuttings of one stream
pub record Cuttings (t : Tables) (bits : ℕ) (one two : List Call) : Type 0 where
  pub one_closed : ClosedStream t bits one
  pub two_closed : ClosedStream t bits two
  pub same : stream_of one ≡ stream_of two
  -- whose head and tables meet the premises
  pub tables : InEach No255 t × InEach NoLetter t
  pub shiftless : NoShift (head_of (stream_of one))

abbrev pub CutAsYouLike : Type 0
CutAsYouLike = (t : Tables) (bits : ℕ) (one two : List Call) → Cuttings t bits one two → Agree (after_calls t (start_of bits) one) (after_calls t (start_of bits) two)
