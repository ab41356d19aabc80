-- What the tests of one byte, and of a label, say. Bytes are numbers.
use Rattle.std.specs.Prelude.{Bool, ◌&&◌, ◌||◌, List, [], ◌∷◌, ℕ, ltb, leb, eqb}
use Rattle.laws.specs.Lists.{any, is_in}

abbrev pub between : ℕ → ℕ → ℕ → Bool
between low high b = leb low b && leb b high

abbrev pub ascii : ℕ → Bool
ascii b = ltb b 0x80

abbrev pub non_ascii : ℕ → Bool
non_ascii b = leb 0x80 b

abbrev pub upper_case : ℕ → Bool
upper_case b = between 0x41 0x5A b

abbrev pub lower_case : ℕ → Bool
lower_case b = between 0x61 0x7A b

abbrev pub letter : ℕ → Bool
letter b = lower_case b || upper_case b

abbrev pub period : ℕ
period = 0x2E

-- . , : ; ? !
abbrev pub punctuation : List ℕ
punctuation = period ∷ 0x2C ∷ 0x3A ∷ 0x3B ∷ 0x3F ∷ 0x21 ∷ []

-- the leads whose score is held: quotation marks, the bullet, dashes, S and Z with a caron and the degree sign in windows-1252
abbrev pub problematic_leads : List ℕ
problematic_leads = 0x8A ∷ 0x8B ∷ 0x8E ∷ 0x91 ∷ 0x92 ∷ 0x93 ∷ 0x94 ∷ 0x95 ∷ 0x96 ∷ 0x97 ∷ 0x9A ∷ 0x9B ∷ 0x9E ∷ 0xB0 ∷ []

abbrev pub is_punctuation : ℕ → Bool
is_punctuation b = is_in punctuation b

abbrev pub is_problematic_lead : ℕ → Bool
is_problematic_lead b = is_in problematic_leads b

-- a byte that no label of lower-case ASCII without a period has
abbrev pub unfit_for_label : ℕ → Bool
unfit_for_label b = upper_case b || (eqb b period || non_ascii b)

abbrev pub unfit_label : List ℕ → Bool
unfit_label label = any unfit_for_label label
