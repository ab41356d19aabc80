-- One place's own tables: which of all tables they are, and how long its machine asks them to be.
use Rattle.std.specs.Prelude.{◌≡◌, List, [], ◌∷◌, ℕ, ℤ, length, get_or}
use Rattle.lengths.specs.Lengths.{big5_count, euc_kr_count, jis_count, extra_count, weight_count}
use Rattle.single.specs.Lent.{Lent, lent, Sized as SingleSized}
use Rattle.tables.specs.Tables.{Single, Tables}

-- a table that the place does not have is empty
pub record Own : Type 0 where
  pub classes : List ℕ
  pub marks : List ℕ
  pub pairs : List ℤ
  pub index : List ℕ
  pub extras : List ℤ
  pub weights : List ℤ

abbrev pub own : List ℕ → List ℕ → List ℤ → List ℕ → List ℤ → List ℤ → Own
own c m p i x w = record { classes = c; marks = m; pairs = p; index = i; extras = x; weights = w }

abbrev pub nothing : Own
nothing = own [] [] [] [] [] []

abbrev pub of_single : Single → List ℤ → Own
of_single s w = own s.classes s.marks s.pairs [] [] w

-- ---- each place's, in the order of their numbers
abbrev pub place_count : ℕ
place_count = 9

abbrev pub owns : Tables → List Own
owns t =
    let utf8 = nothing in
    let iso2022jp = own [] [] [] t.jis [] [] in
    let euckr = own [] [] [] t.euckr t.extras t.weights in
    let big5 = own [] [] [] t.big5 [] t.weights in
    let caseless = of_single t.caseless t.weights in
    let logical = of_single t.logical t.weights in
    let visual = of_single t.visual t.weights in
    let arabic_french = of_single t.arabic_french t.weights in
    let shiftJis = own [] [] [] t.jis [] [] in
    utf8 ∷ iso2022jp ∷ euckr ∷ big5 ∷ caseless ∷ logical ∷ visual ∷ arabic_french ∷ shiftJis ∷ []

abbrev pub own_of : Tables → ℕ → Own
own_of t k = get_or (owns t) k nothing

-- as a single-byte machine takes them
abbrev pub lent_to : Own → Lent
lent_to o = lent o.classes o.marks o.pairs o.weights

-- ---- the lengths that each place's machine asks, in the same order
abbrev pub asked : Own → List (Type 0)
asked o =
    let utf8 = Unit {0} in
    let iso2022jp = length o.index ≡ jis_count in
    let euckr = (length o.index ≡ euc_kr_count) × ((length o.extras ≡ extra_count) × (length o.weights ≡ weight_count)) in
    let big5 = (length o.index ≡ big5_count) × (length o.weights ≡ weight_count) in
    let single = SingleSized (lent_to o) in
    let shiftJis = length o.index ≡ jis_count in
    utf8 ∷ iso2022jp ∷ euckr ∷ big5 ∷ single ∷ single ∷ single ∷ single ∷ shiftJis ∷ []

abbrev pub SizedAt : ℕ → Own → Type 0
SizedAt k o = get_or (asked o) k (Unit {0})
