-- A buffer of 1,280 bytes has room for what any state tells of any file, and for every answer.
use Rattle.std.specs.Prelude.{◌≡◌, ℕ, suc, ◌*◌, ltb, length, drop, Ok, Err}
use Rattle.std.proofs.Math.Path.{refl}
use mathlib.Core.List.{List, [], ◌∷◌, ◌++◌}
use native.Mathlib.Omega.{arith}
use Rattle.laws.specs.Tests.{picked}
use Rattle.names.specs.NamesLaws.{place_name_lem}
use Rattle.scribe.specs.FitsLaws.{Fits, text, line_end, joined, wide, decimal, signed, whole}
use Rattle.scribe.specs.Page.{page, onto}
use Rattle.spot.specs.FitsLaws.{dropped_short}
use Rattle.tables.specs.Own.{place_count}
use Rattle.places.specs.declared.place.Place.{Place}
use Rattle.places.specs.Score.{Score}
use Rattle.state.specs.declared.State.{State}
use Rattle.label.specs.Label.{most, state_of}
use Rattle.label.specs.RoomLaws.{all_places}
use Rattle.account.specs.Account.{head_length, told_text, place_line, place_lines, count_lines, account_of, answer_of}

module _ (file : List ℕ) (head : ℕ) where
  told : (s : Score) → Fits 99 (told_text file head s)
  unfolding told_text
  told (Err why) = dropped_short file head why.reason why.at
  told (Ok n) = wide (joined (text "score ") (signed n)) refl

  place : (k : ℕ) (s : Score) → Fits 115 (place_line file head k s)
  unfolding place_line
  place k s = joined (joined (joined (place_name_lem k) (text ": ")) (told s)) line_end

  places : (k : ℕ) (ps : List Place) → Fits (115 * length ps) (place_lines file head k ps)
  unfolding place_lines
  places k [] = record { short = omega arith }
  places k (p ∷ ps) = record { short = omega (arith, (joined (place k p.score) (places (suc k) ps)).short) }

counts : (bytes head : ℕ) → Fits 59 (count_lines bytes head)
unfolding count_lines
counts bytes head =
    joined (joined (joined (joined (joined (joined (joined (text "why 1") line_end) (text "bytes ")) (decimal bytes)) line_end) (text "head ")) (decimal head)) line_end

pub account_short : (file : List ℕ) (s : State) → length s.places ≡ place_count → Fits 1280 (account_of file s)
unfolding account_of
account_short file s e =
    let f = joined (counts s.front.bytes (head_length s.front)) (places file (head_length s.front) 0 s.places) in
    record { short = omega (arith, e, f.short) }

pub answer_short : (file : List ℕ) → Fits 1280 (answer_of file)
unfolding answer_of
answer_short file = picked (Fits 1280) (ltb most (length file)) (wide (joined (text "too long") line_end) refl) (account_short file (state_of file) (all_places file))

-- What is written into such a buffer is the whole answer.
pub answer_whole : (file xs : List ℕ) → length xs ≡ 1280 → onto (page xs 0) (answer_of file) ≡ page (answer_of file ++ drop (length (answer_of file)) xs) (length (answer_of file))
answer_whole file xs h = whole 1280 xs (answer_of file) (answer_short file) (omega arith)
