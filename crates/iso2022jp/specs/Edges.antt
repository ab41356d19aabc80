-- The edge table's line on ISO-2022-JP: over any index, from the fresh record, with any score.
use Rattle.std.specs.Prelude.{◌≡◌, refl, List, [], ◌∷◌, ℕ, ℤ}
use Rattle.laws.specs.Lists.{any}
use Rattle.laws.specs.declared.Reason.{Reason}
use Rattle.laws.specs.declared.Reason.TheVariants.{BrokenEscape}
use Rattle.laws.specs.Run.{none, live, plus, takes, with_byte, run, ends_at}
use Rattle.laws.proofs.Still.{drops}
use Rattle.iso2022jp.specs.Iso2022Jp.{fresh, is_text, ascii_of, escape_start_of, designated, state_of, escaped_to, step_in, step_of}

-- none, for this reason, at this byte
abbrev pub IsNone : Reason → ℕ → List ℕ → Type 0
IsNone why at xs = (index : List ℕ) (s : ℤ) → (run (step_of index) (live fresh s) xs ≡ none why) × (ends_at (step_of index) (live fresh s) xs ≡ at)

-- an escape straight after another, at its last byte
pub second_escape : IsNone BrokenEscape 6 (0x1B ∷ 0x28 ∷ 0x42 ∷ 0x1B ∷ 0x28 ∷ 0x42 ∷ [])
unfolding run ends_at takes with_byte plus step_in ascii_of is_text escape_start_of designated state_of escaped_to any
second_escape index s = (drops (step_of index) fresh BrokenEscape s (0x1B ∷ 0x28 ∷ 0x42 ∷ 0x1B ∷ 0x28 ∷ 0x42 ∷ []) refl, refl)
