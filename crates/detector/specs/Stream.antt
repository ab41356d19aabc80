-- The front end over a whole stream, cut into chunks: the front after them, and the bytes that reached the places.
use Rattle.std.specs.Prelude.{◌≡◌, false, true, List, [], ◌∷◌, ◌++◌, ◌⊎◌, ℕ, ◌≤◌, length, drop}
use Rattle.laws.specs.Lists.{any, last}
use Rattle.context.specs.Head.{is_trigger, head_of}
use Rattle.detector.specs.Front.{Reaches, none, some, bytes_in, reaches_of, front_of}
use Rattle.state.specs.declared.front.Front.{Front}

-- whether a chunk is the last one says nothing of what reaches the places
unfoldable pub front_through : Front → List (List ℕ) → Front
front_through f [] = f
front_through f (x ∷ xs) = front_through (front_of f x false) xs

unfoldable pub reached_by : Front → List (List ℕ) → List ℕ
reached_by f [] = []
reached_by f (x ∷ xs) = bytes_in (reaches_of f x) ++ reached_by (front_of f x false) xs

-- a chunk reaches the places
abbrev pub Something : Reaches → Type 0
Something none = ⊥
Something (some before part) = Unit {0}

-- n bytes from the end of the head on are all of the part
abbrev pub Within : ℕ → Reaches → Type 0
Within n none = Unit {0}
Within n (some before part) = n ≤ length part

-- the bytes of a stream from the end of its head on
abbrev pub rest_of : List ℕ → List ℕ
rest_of stream = drop (length (head_of stream)) stream

-- it begins with a trigger
abbrev pub Begins : List ℕ → Type 0
Begins [] = ⊥
Begins (b ∷ bs) = is_trigger b ≡ true

-- of a stream with a trigger: at most the last three bytes of the head, its last two where it has them, then all that follows
pub record FromHead (stream reached : List ℕ) : Type 0 where
  pub head : List ℕ
  pub rest : List ℕ
  pub cut : stream ≡ head ++ rest
  pub triggerless : any is_trigger head ≡ false
  pub begins : Begins rest
  pub kept : ℕ
  pub two : 2 ≤ kept
  pub three : kept ≤ 3
  pub is : reached ≡ last kept head ++ rest

-- of one without: nothing
abbrev pub FromStream : List ℕ → List ℕ → Type 0
FromStream stream reached = ((any is_trigger stream ≡ false) × (reached ≡ [])) ⊎ FromHead stream reached
