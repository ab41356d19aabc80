-- A buffer of 512 bytes has room for every sheet and every answer: no number has more than 20 digits, no name more than 13 bytes.
use Rattle.std.specs.Prelude.{◌≡◌, Bool, true, ℕ, suc, ◌*◌, ltb, length, drop, Ok, Err}
use Rattle.std.proofs.Math.Path.{refl}
use Rattle.std.proofs.Common.{◌∙◌, arith}
use Rattle.std.proofs.Math.Bool.{false}
use mathlib.Core.List.{List, [], ◌∷◌, ◌++◌}
use Rattle.laws.specs.Tests.{picked}
use Rattle.names.specs.NamesLaws.{place_name_lem}
use Rattle.scribe.specs.FitsLaws.{Fits, text, line_end, joined, wide, decimal, signed, whole}
use Rattle.scribe.specs.Page.{page, onto}
use Rattle.tables.specs.Tables.{Tables}
use Rattle.tables.specs.Own.{place_count}
use Rattle.places.specs.Slate.{feed_from, feed_all}
use Rattle.places.specs.Slate.{start_of as startPlaces}
use Rattle.places.specs.declared.place.Place.{Place}
use Rattle.places.specs.Score.{Score}
use Rattle.state.specs.Leader.{leader_of}
use Rattle.state.specs.State.{start_of}
use Rattle.state.specs.declared.State.{State}
use Rattle.detector.specs.Feed.{Verdict, refusal_of, places_by, advance_of, feed_by}
use Rattle.detector.specs.Front.{Reaches, none, some, reaches_of, front_of}
use Rattle.demo.specs.Demo.{demonstration}
use Rattle.sheet.specs.Sheet.{score_text, place_line, place_lines, sheet_of}
use Rattle.sheet.specs.SheetLaws.{leader_short}
use Rattle.label.specs.Label.{most, state_of, answer_of}

-- ---- a sheet
scored : (s : Score) → Fits 21 (score_text s)
unfolding score_text
scored (Err why) = wide (text "none") refl
scored (Ok n) = signed n

place : (k : ℕ) (s : Score) → Fits 36 (place_line k s)
unfolding place_line
place k s = joined (joined (joined (place_name_lem k) (text " ")) (scored s)) line_end

places : (k : ℕ) (ps : List Place) → Fits (36 * length ps) (place_lines k ps)
unfolding place_lines
places k [] = record { short = omega arith }
places k (p ∷ ps) = record { short = omega (arith, (joined (place k p.score) (places (suc k) ps)).short) }

pub sheet_short : (s : State) → length s.places ≡ place_count → Fits 512 (sheet_of s)
unfolding sheet_of
sheet_short s e =
    let bytes = joined (joined (text "bytes ") (decimal s.front.bytes)) line_end in
    let nonascii = joined (joined (text "nonascii ") (decimal s.front.non_ascii_seen)) line_end in
    let f = joined (joined (joined (joined (joined (text "slate 2") line_end) bytes) nonascii) (places 0 s.places)) (leader_short (leader_of s)) in
    record { short = omega (arith, e, f.short) }

-- What is written into such a buffer is the whole sheet.
pub sheet_whole : (s : State) (xs : List ℕ) → length s.places ≡ place_count → length xs ≡ 512 → onto (page xs 0) (sheet_of s) ≡ page (sheet_of s ++ drop (length (sheet_of s)) xs) (length (sheet_of s))
sheet_whole s xs e h = whole 512 xs (sheet_of s) (sheet_short s e) (omega arith)

-- ---- an answer: a feed leaves as many places as there were
module _ (t : Tables) where
  from_length : (last : Bool) (body : ℕ) (xs : List ℕ) (k : ℕ) (ps : List Place) → length (feed_from t last body xs k ps) ≡ length ps
  unfolding feed_from
  from_length last body xs k [] = refl
  from_length last body xs k (p ∷ ps) = rw (from_length last body xs (suc k) ps)

  places_length : (last : Bool) (body : ℕ) (ps : List Place) (r : Reaches) → length (places_by t last body ps r) ≡ length ps
  unfolding places_by
  places_length last body ps none = refl
  places_length last body ps (some before part) = from_length last body part 0 (feed_all t false 0 before ps) ∙ from_length false 0 before 0 ps

  fed_length : (s : State) (bs : List ℕ) (last : Bool) (v : Verdict) → length (feed_by t s bs last v).state.places ≡ length s.places
  unfolding feed_by advance_of
  fed_length s bs last (Ok u) = places_length last (front_of s.front bs last).body s.places (reaches_of s.front bs)
  fed_length s bs last (Err r) = refl

pub all_places : (bs : List ℕ) → length (state_of bs).places ≡ place_count
unfolding state_of startPlaces
all_places bs = fed_length demonstration (start_of 511) bs true (refusal_of demonstration (start_of 511) bs)

pub answer_short : (bs : List ℕ) → Fits 512 (answer_of bs)
unfolding answer_of
answer_short bs = picked (Fits 512) (ltb most (length bs)) (wide (joined (text "too long") line_end) refl) (sheet_short (state_of bs) (all_places bs))

-- What is written into such a buffer is the whole answer.
pub answer_whole : (bs xs : List ℕ) → length xs ≡ 512 → onto (page xs 0) (answer_of bs) ≡ page (answer_of bs ++ drop (length (answer_of bs)) xs) (length (answer_of bs))
answer_whole bs xs h = whole 512 xs (answer_of bs) (answer_short bs) (omega arith)
