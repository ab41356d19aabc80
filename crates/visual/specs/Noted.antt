-- The code's own step, which leaves the flags of its byte to be found from the byte itself. No public contract cites it.
use Rattle.std.specs.Prelude.{◌≡◌, ◌≢◌, refl, Bool, false, cond, not, ◌&&◌, List, ℕ, ◌+◌, ◌-◌, ◌≤◌, eqb, ℤ, nat_abs, get_or, Some}
use Rattle.std.proofs.Common.{ne_eqb}
use Rattle.laws.specs.Run.{none}
use Rattle.laws.specs.declared.Reason.TheVariants.{Class255}
use Rattle.octets.specs.Octets.{ascii}
use Rattle.weights.specs.Weights.{per_byte}
use Rattle.single.specs.Before.{ascii_before, not_first, one_back}
use Rattle.single.specs.Class.{class_of, caseless_of, alphabetic}
use Rattle.single.specs.Lent.{Lent}
use Rattle.single.specs.Pair.{ascii_pair, gain_by}
use Rattle.single.specs.Punctuation.{punctuation_of, count_of}
use Rattle.single.specs.Rest.{Rests, rest_start, rest_next}
use Rattle.single.specs.Steps.{Steps, Starts}
use Rattle.single.specs.Words.{word_of, longest_of}
use Rattle.visual.specs.Visual.{plausible_of, step_of}
use Rattle.visual.specs.declared.Visual.{Visual}

-- whether the byte before byte i of a part is ASCII punctuation of caseless class 0; at the part's start the record has it
abbrev pub punctuation_before : List ℕ → ℕ → Visual → Bool
punctuation_before xs i m = cond (eqb i 0) m.prev_punctuation (punctuation_of m.prev (get_or xs (i - 1) 0))

abbrev pub flagged : Bool → Bool → Visual → Visual
flagged isAscii is_punctuation m =
    record {
      prev = m.prev;
      prev_ascii = isAscii;
      prev_punctuation = is_punctuation;
      plausible_punctuation = m.plausible_punctuation;
      current_word_len = m.current_word_len;
      longest_word = m.longest_word;
    }

-- the record at byte i of a part
abbrev pub noted : List ℕ → ℕ → Visual → Visual
noted xs i m = flagged (ascii_before xs i m.prev_ascii) (punctuation_before xs i m) m

abbrev pub bare : ℕ → ℕ → ℕ → ℕ → Visual
bare prev plausible word longest =
    record {
      prev = prev;
      prev_ascii = false;
      prev_punctuation = false;
      plausible_punctuation = plausible;
      current_word_len = word;
      longest_word = longest;
    }

-- what byte b of that class leaves, its flags left out, and by how much the score changes
abbrev pub left_by : Visual → ℕ → ℕ → Bool → Visual
left_by m b current alphabetic =
    bare current (count_of m.plausible_punctuation (not (ascii_pair m.prev_ascii b) && plausible_of m.prev_punctuation alphabetic)) (word_of m.current_word_len alphabetic) (longest_of m.current_word_len m.longest_word alphabetic)

abbrev pub gain_from : List ℕ → List ℤ → List ℤ → Visual → ℕ → ℕ → ℤ
gain_from marks pairs weights m b current = gain_by marks pairs weights m.prev m.prev_ascii b current

-- where no word has begun, the class of the byte before is not alphabetic
abbrev pub RestsAt : Lent → ℕ → Visual → Type 0
RestsAt t i m = Rests t.marks i m.current_word_len m.prev

pub starts : Starts noted RestsAt
starts = record { same = λ xs m. refl; rests = λ t m. rest_start t.marks m.current_word_len m.prev }

-- what a step leaves is the record at the next byte
pub noted_next : (xs : List ℕ) (i : ℕ) (n : Visual) → noted xs (i + 1) n ≡ flagged (ascii (get_or xs i 0)) (punctuation_of n.prev (get_or xs i 0)) n
noted_next xs i n = rw (not_first i, one_back i)

-- byte i of a part
module _ (t : Lent) (xs : List ℕ) (i : ℕ) (m : Visual) where
  pub step_drops : class_of t (get_or xs i 0) ≡ 255 → step_of t (noted xs i m) (get_or xs i 0) ≡ none Class255
  unfolding step_of
  step_drops e = rw e

  pub step_leaves : (a : Bool) → (class_of t (get_or xs i 0) ≢ 255) → alphabetic t (get_or xs i 0) ≡ a → (r : Visual × ℤ) → r.0 ≡ left_by (noted xs i m) (get_or xs i 0) (caseless_of t (get_or xs i 0)) a → r.1 ≡ gain_from t.marks t.pairs t.weights (noted xs i m) (get_or xs i 0) (caseless_of t (get_or xs i 0)) → nat_abs r.1 ≤ per_byte → Steps step_of noted RestsAt t xs i m (Some r)
  unfolding step_of
  step_leaves a f e r p q h =
      rw
      (ne_eqb _ _ f, e, noted_next xs i r.0, p, q)
      (refl, (rest_next t.marks (i + 1) m.current_word_len (caseless_of t (get_or xs i 0)) a e, rw q at h))
