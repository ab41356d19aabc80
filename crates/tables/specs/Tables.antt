-- The seventeen lent tables, in document 01's order.
use Rattle.std.specs.Prelude.{◌≡◌, Bool, true, false, ◌&&◌, List, [], ◌∷◌, ◌++◌, map, ℕ, eqb, ℤ, length}
use Rattle.lengths.specs.Lengths.{class_count, mark_count, pair_count, big5_count, euc_kr_count, jis_count, extra_count, weight_count}

-- ---- each table's length, and the bytes of an entry; its number is its place in the list
pub record Rule : Type 0 where
  pub entries : ℕ
  pub width : ℕ

abbrev pub rule : ℕ → ℕ → Rule
rule n w = record { entries = n; width = w }

-- those of a single-byte place
abbrev pub single_rules : List Rule
single_rules = rule class_count 1 ∷ rule mark_count 1 ∷ rule pair_count 2 ∷ []

abbrev pub rest_rules : List Rule
rest_rules = rule big5_count 4 ∷ rule euc_kr_count 4 ∷ rule jis_count 4 ∷ rule extra_count 2 ∷ rule weight_count 4 ∷ []

abbrev pub rules : List Rule
rules = single_rules ++ (single_rules ++ (single_rules ++ (single_rules ++ rest_rules)))

-- ---- the lists
-- what a single-byte place is lent, the weights apart
pub record Single : Type 0 where
  pub classes : List ℕ
  pub marks : List ℕ
  pub pairs : List ℤ

abbrev pub single : List ℕ → List ℕ → List ℤ → Single
single c m p = record { classes = c; marks = m; pairs = p }

pub record Tables : Type 0 where
  pub caseless : Single
  pub logical : Single
  pub visual : Single
  pub arabic_french : Single
  pub big5 : List ℕ
  pub euckr : List ℕ
  pub jis : List ℕ
  pub extras : List ℤ
  pub weights : List ℤ

-- all of them, by their numbers
abbrev pub tables : List ℕ → List ℕ → List ℤ → List ℕ → List ℕ → List ℤ → List ℕ → List ℕ → List ℤ → List ℕ → List ℕ → List ℤ → List ℕ → List ℕ → List ℕ → List ℤ → List ℤ → Tables
tables c4 m4 p4 c5 m5 p5 c6 m6 p6 c7 m7 p7 b e j x w = record { caseless = single c4 m4 p4; logical = single c5 m5 p5; visual = single c6 m6 p6; arabic_french = single c7 m7 p7; big5 = b; euckr = e; jis = j; extras = x; weights = w }

-- ---- exact lengths
abbrev pub single_lengths : Single → List ℕ
single_lengths s = length s.classes ∷ length s.marks ∷ length s.pairs ∷ []

abbrev pub rest_lengths : List ℕ → List ℕ → List ℕ → List ℤ → List ℤ → List ℕ
rest_lengths b e j x w = length b ∷ length e ∷ length j ∷ length x ∷ length w ∷ []

abbrev pub lengths_of : Tables → List ℕ
lengths_of t =
    single_lengths t.caseless ++ (single_lengths t.logical ++ (single_lengths t.visual ++ (single_lengths t.arabic_french ++ rest_lengths t.big5 t.euckr t.jis t.extras t.weights)))

pub record Sized (t : Tables) : Type 0 where
  pub exact : lengths_of t ≡ map (λ (r : Rule). r.entries) rules

-- ---- the test
unfoldable pub exact_b : List ℕ → List Rule → Bool
exact_b [] [] = true
exact_b [] (r ∷ rs) = false
exact_b (n ∷ ns) [] = false
exact_b (n ∷ ns) (r ∷ rs) = eqb n r.entries && exact_b ns rs

abbrev pub sized_b : Tables → Bool
sized_b t = exact_b (lengths_of t) rules
