-- The edge table's lines on UTF-8: from the fresh record, with any score.
use Rattle.std.specs.Prelude.{◌≡◌, refl, List, [], ◌∷◌, ℕ, ℤ}
use Rattle.laws.specs.declared.Reason.TheVariants.{BadByte}
use Rattle.laws.specs.Run.{none, live, plus, takes, with_byte, run, ends_at}
use Rattle.laws.proofs.Still.{lives, drops}
use Rattle.utf8.specs.Utf8.{fresh, lead_of, trail_of, step_of}

-- the bytes live, and no byte is needed after them
abbrev pub LivesWhole : List ℕ → Type 0
LivesWhole xs = (s : ℤ) → run step_of (live fresh s) xs ≡ live fresh s

-- none, by the bad byte at this place
abbrev pub IsNone : ℕ → List ℕ → Type 0
IsNone at xs = (s : ℤ) → (run step_of (live fresh s) xs ≡ none BadByte) × (ends_at step_of (live fresh s) xs ≡ at)

-- U+D7FF, the last before the surrogates
pub ed_9f_bf : LivesWhole (0xED ∷ 0x9F ∷ 0xBF ∷ [])
unfolding run with_byte plus step_of lead_of trail_of
ed_9f_bf s = lives step_of fresh fresh s (0xED ∷ 0x9F ∷ 0xBF ∷ []) refl

-- the first surrogate
pub ed_a0_80 : IsNone 2 (0xED ∷ 0xA0 ∷ 0x80 ∷ [])
unfolding run ends_at takes with_byte plus step_of lead_of trail_of
ed_a0_80 s = (drops step_of fresh BadByte s (0xED ∷ 0xA0 ∷ 0x80 ∷ []) refl, refl)

-- U+10FFFF, the last of all
pub f4_8f_bf_bf : LivesWhole (0xF4 ∷ 0x8F ∷ 0xBF ∷ 0xBF ∷ [])
unfolding run with_byte plus step_of lead_of trail_of
f4_8f_bf_bf s = lives step_of fresh fresh s (0xF4 ∷ 0x8F ∷ 0xBF ∷ 0xBF ∷ []) refl

-- past it
pub f4_90_80_80 : IsNone 2 (0xF4 ∷ 0x90 ∷ 0x80 ∷ 0x80 ∷ [])
unfolding run ends_at takes with_byte plus step_of lead_of trail_of
f4_90_80_80 s = (drops step_of fresh BadByte s (0xF4 ∷ 0x90 ∷ 0x80 ∷ 0x80 ∷ []) refl, refl)

-- U+0000 in a byte too many
pub c0_80 : IsNone 1 (0xC0 ∷ 0x80 ∷ [])
unfolding run ends_at takes with_byte plus step_of lead_of trail_of
c0_80 s = (drops step_of fresh BadByte s (0xC0 ∷ 0x80 ∷ []) refl, refl)
