-- The two orders of Hebrew. They often score nearly alike; their plausible punctuation tells in which of them a text is.
use Rattle.std.specs.Prelude.{Bool, true, false, cond, ◌&&◌, ◌||◌, List, ℕ, eqb, ltb, Ok, Err}
use Rattle.kinds.specs.declared.machine.Machine.{Machine}
use Rattle.kinds.specs.declared.machine.Machine.TheVariants.{Utf8, Iso2022Jp, EucKr, Big5, Caseless, Logical, Visual, ArabicFrench, ShiftJis}
use Rattle.places.specs.Slate.{place_at}
use Rattle.places.specs.declared.place.Place.{Place}
use Rattle.places.specs.Score.{Score}

-- the numbers of their places
abbrev pub logical : ℕ
logical = 5

abbrev pub visual : ℕ
visual = 6

abbrev pub has_score : Score → Bool
has_score (Err why) = false
has_score (Ok n) = true

-- the plausible punctuation that a machine has counted; the other kinds count none
abbrev pub plausible_punctuation : Machine → ℕ
plausible_punctuation (Utf8 m) = 0
plausible_punctuation (Iso2022Jp m) = 0
plausible_punctuation (EucKr m) = 0
plausible_punctuation (Big5 m) = 0
plausible_punctuation (Caseless m) = 0
plausible_punctuation (Logical m) = m.plausible_punctuation
plausible_punctuation (Visual m) = m.plausible_punctuation
plausible_punctuation (ArabicFrench m) = 0
plausible_punctuation (ShiftJis m) = 0

-- whether place k is one of the two
abbrev pub is_hebrew : ℕ → Bool
is_hebrew k = eqb k logical || eqb k visual

-- whether it is, and both have scores
abbrev pub contested : Place → Place → ℕ → Bool
contested l v k = is_hebrew k && (has_score l.score && has_score v.score)

-- the one with more plausible punctuation, logical on equal counts
abbrev pub punctuated : Place → Place → ℕ
punctuated l v = cond (ltb (plausible_punctuation l.machine) (plausible_punctuation v.machine)) visual logical

-- which place is named where place k has the greatest score
unfoldable pub named_from : Place → Place → ℕ → ℕ
named_from l v k = cond (contested l v k) (punctuated l v) k

abbrev pub named_of : List Place → ℕ → ℕ
named_of ps k = named_from (place_at logical ps) (place_at visual ps) k
