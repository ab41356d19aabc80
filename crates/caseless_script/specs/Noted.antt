-- The code's own step, which leaves the flag of its byte to be found from the byte itself. No public contract cites it.
use Rattle.std.specs.Prelude.{◌≡◌, ◌≢◌, refl, Bool, false, List, ℕ, ◌+◌, ◌≤◌, ℤ, get_or, nat_abs, Some}
use Rattle.std.proofs.Common.{sym, ne_eqb}
use Rattle.laws.specs.Run.{none}
use Rattle.laws.specs.declared.Reason.TheVariants.{Class255}
use Rattle.weights.specs.Weights.{per_byte}
use Rattle.single.specs.Before.{ascii_before, ascii_next}
use Rattle.single.specs.Class.{class_of, caseless_of, alphabetic}
use Rattle.single.specs.Lent.{Lent}
use Rattle.single.specs.Pair.{gain_by}
use Rattle.single.specs.Rest.{Rests, rest_start, rest_next}
use Rattle.single.specs.Steps.{Steps, Starts}
use Rattle.single.specs.Words.{word_of, longest_of}
use Rattle.caseless_script.specs.Caseless.{step_of}
use Rattle.caseless_script.specs.declared.Caseless.{Caseless}

abbrev pub flagged : Bool → Caseless → Caseless
flagged isAscii m =
    record {
      prev = m.prev;
      prev_ascii = isAscii;
      current_word_len = m.current_word_len;
      longest_word = m.longest_word;
    }

-- the record at byte i of a part
abbrev pub noted : List ℕ → ℕ → Caseless → Caseless
noted xs i m = flagged (ascii_before xs i m.prev_ascii) m

abbrev pub bare : ℕ → ℕ → ℕ → Caseless
bare prev word longest =
    record {
      prev = prev;
      prev_ascii = false;
      current_word_len = word;
      longest_word = longest;
    }

-- what byte b of that class leaves, its flag left out, and by how much the score changes
abbrev pub left_by : Caseless → ℕ → ℕ → Bool → Caseless
left_by m b current alphabetic =
    bare current (word_of m.current_word_len alphabetic) (longest_of m.current_word_len m.longest_word alphabetic)

abbrev pub gain_from : List ℕ → List ℤ → List ℤ → Caseless → ℕ → ℕ → ℤ
gain_from marks pairs weights m b current = gain_by marks pairs weights m.prev m.prev_ascii b current

-- where no word has begun, the class of the byte before is not alphabetic
abbrev pub RestsAt : Lent → ℕ → Caseless → Type 0
RestsAt t i m = Rests t.marks i m.current_word_len m.prev

pub starts : Starts noted RestsAt
starts = record { same = λ xs m. refl; rests = λ t m. rest_start t.marks m.current_word_len m.prev }

-- byte i of a part
module _ (t : Lent) (xs : List ℕ) (i : ℕ) (m : Caseless) where
  pub step_drops : class_of t (get_or xs i 0) ≡ 255 → step_of t (noted xs i m) (get_or xs i 0) ≡ none Class255
  unfolding step_of
  step_drops e = rw e

  pub step_leaves : (a : Bool) → (class_of t (get_or xs i 0) ≢ 255) → alphabetic t (get_or xs i 0) ≡ a → (r : Caseless × ℤ) → r.0 ≡ left_by (noted xs i m) (get_or xs i 0) (caseless_of t (get_or xs i 0)) a → r.1 ≡ gain_from t.marks t.pairs t.weights (noted xs i m) (get_or xs i 0) (caseless_of t (get_or xs i 0)) → nat_abs r.1 ≤ per_byte → Steps step_of noted RestsAt t xs i m (Some r)
  unfolding step_of
  step_leaves a f e r p q h = rw (p, q) ((rw (ne_eqb _ _ f, e, ascii_next xs i false) refl), (rest_next t.marks (i + 1) m.current_word_len (caseless_of t (get_or xs i 0)) a e, rw (sym q) h))
