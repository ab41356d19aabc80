-- The last name, whatever the number above; how long a name or a word can be.
use Rattle.std.specs.Prelude.{◌≡◌, refl, ℕ, zero, suc}
use Rattle.laws.specs.declared.Reason.{Reason}
use Rattle.laws.specs.declared.Reason.TheVariants.{Class255, BadByte, BadSecondByte, BrokenEscape, CutAtClose, NotInSlate}
use Rattle.names.specs.Names.{place_name, reason_name}
use Rattle.scribe.specs.FitsLaws.{Fits, text, wide}
use Rattle.scribe.specs.Text.{ascii}

pub last_name : (k : ℕ) → (k ≡ 0 → ⊥) → (k ≡ 1 → ⊥) → (k ≡ 2 → ⊥) → (k ≡ 3 → ⊥) → (k ≡ 4 → ⊥) → (k ≡ 5 → ⊥) → (k ≡ 6 → ⊥) → (k ≡ 7 → ⊥) → ascii "shift_jis" ≡ place_name k
unfolding place_name
last_name zero a b c d e f g h = absurd (a refl)
last_name (suc zero) a b c d e f g h = absurd (b refl)
last_name (suc (suc zero)) a b c d e f g h = absurd (c refl)
last_name (suc (suc (suc zero))) a b c d e f g h = absurd (d refl)
last_name (suc (suc (suc (suc zero)))) a b c d e f g h = absurd (e refl)
last_name (suc (suc (suc (suc (suc zero))))) a b c d e f g h = absurd (f refl)
last_name (suc (suc (suc (suc (suc (suc zero)))))) a b c d e f g h = absurd (g refl)
last_name (suc (suc (suc (suc (suc (suc (suc zero))))))) a b c d e f g h = absurd (h refl)
last_name (suc (suc (suc (suc (suc (suc (suc (suc k)))))))) a b c d e f g h = refl

-- no name has more than 13 bytes
pub place_name_lem : (k : ℕ) → Fits 13 (place_name k)
unfolding place_name
place_name_lem zero = wide (text "utf-8") refl
place_name_lem (suc zero) = wide (text "iso-2022-jp") refl
place_name_lem (suc (suc zero)) = wide (text "euc-kr") refl
place_name_lem (suc (suc (suc zero))) = wide (text "big5") refl
place_name_lem (suc (suc (suc (suc zero)))) = wide (text "caseless") refl
place_name_lem (suc (suc (suc (suc (suc zero))))) = wide (text "logical") refl
place_name_lem (suc (suc (suc (suc (suc (suc zero)))))) = wide (text "visual") refl
place_name_lem (suc (suc (suc (suc (suc (suc (suc zero))))))) = wide (text "arabic-french") refl
place_name_lem (suc (suc (suc (suc (suc (suc (suc (suc k)))))))) = wide (text "shift_jis") refl

-- no reason's word has more than 15
pub reason_name_lem : (d : Reason) → Fits 15 (reason_name d)
unfolding reason_name
reason_name_lem Class255 = wide (text "class-255") refl
reason_name_lem BadByte = wide (text "bad-byte") refl
reason_name_lem BadSecondByte = wide (text "bad-second-byte") refl
reason_name_lem BrokenEscape = wide (text "broken-escape") refl
reason_name_lem CutAtClose = wide (text "cut-at-close") refl
reason_name_lem NotInSlate = wide (text "not-in-slate") refl
