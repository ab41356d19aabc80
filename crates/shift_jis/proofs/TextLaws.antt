-- The Shift_JIS machine lives to the end through exactly the texts: sequences that are code points, one after the other.
use Rattle.std.specs.Prelude.{◌≡◌, refl, Bool, ℕ, ltb, ℤ, pos, ◌+ℤ◌}
use Rattle.std.proofs.Common.{sym, ◌∙◌, arith}
use Rattle.std.proofs.Math.Path.{ap}
use Rattle.std.proofs.Math.Bool.{true, false}
use mathlib.Core.List.{List, [], ◌∷◌}
use Rattle.std.proofs.Math.IntN.{+ℤ_idr}
use borrow.Author.Tests.{ltb-true, ltb-false, ne_eqb}
use Rattle.laws.specs.Handler.{byte, Result, code_point, error}
use Rattle.laws.specs.Validator.{outcome_by, decoded_by, last_by}
use Rattle.laws.specs.declared.Reason.{Reason}
use Rattle.laws.specs.declared.Reason.TheVariants.{BadByte}
use Rattle.laws.specs.Run.{Outcome, none, live, plus, run, run_nil, run_one, run_append, ended, alive}
use Rattle.laws.specs.Still.{Lives, plus_live, ended_live, none_live, run_first}
use Rattle.laws.proofs.Still.{lives, from_zero, run_drops}
use Rattle.octets.specs.Octets.{between}
use Rattle.octets.specs.BetweenLaws.{inside}
use Rattle.shift_jis.specs.declared.ShiftJis.{ShiftJis}
use Rattle.shift_jis.specs.Standard.{is_lead, is_trail, is_mapped, handler}
use Rattle.shift_jis.proofs.StandardLaws.{lead_least}
use Rattle.shift_jis.specs.ShiftJis.{holds, fresh, step_of, close_of}
use Rattle.shift_jis.specs.ShiftJisLaws.{first_low, first_katakana, first_lead, first_rest}
use Rattle.shift_jis.specs.Agreement.{reason_of, outcome_of}
use Rattle.shift_jis.proofs.AgreementLaws.{step_agrees, stream_agrees}
use Rattle.shift_jis.specs.Sequences.{is_private_lead, entry_of, Yields, itself, katakana, private_use, mapped, Reads, Text, empty, then}
use Rattle.shift_jis.proofs.SequencesLaws.{after_lead, next_private, next_mapped, next_unmapped, next_no_trail, yields_reads}

module _ (index : List ℕ) where
  -- ---- what is a text, lives
  stepped : (lead b : ℕ) (r : Result ℕ ℕ) → handler index lead (byte b) ≡ r → step_of index (holds lead) b ≡ outcome_of BadByte r
  stepped lead b r e = step_agrees index lead b ∙ ap (outcome_of BadByte) e

  read_run : (bs : List ℕ) (p : ℕ) → Reads index bs p → run (step_of index) (alive fresh) bs ≡ alive fresh
  unfolding outcome_by
  read_run [] p r = absurd r
  read_run (b ∷ []) p r = run_one (step_of index) fresh b ∙ stepped 0 b _ r
  read_run (lead ∷ b ∷ []) p r =
      run_first (step_of index) fresh (holds lead) lead (b ∷ []) (stepped 0 lead _ r.0) ∙ (run_one (step_of index) (holds lead) b ∙ stepped lead b _ r.1)
  read_run (a ∷ b ∷ c ∷ bs) p r = absurd r

  text_run : (xs : List ℕ) → Text index xs → run (step_of index) (alive fresh) xs ≡ alive fresh
  text_run xs empty = run_nil (step_of index) (alive fresh)
  text_run xs (then bs {p} {xs = ys} y t) =
      run_append (step_of index) (alive fresh) bs ys ∙ (ap (λ (o : Outcome ShiftJis). run (step_of index) o ys) (read_run bs p (yields_reads index bs p y)) ∙ text_run ys t)

  -- ---- what lives to the end, is a text
  abbrev Closes : ShiftJis → List ℕ → Type 0
  Closes m xs = Lives (ended close_of (run (step_of index) (alive m) xs))

  goes_on : (m n : ShiftJis) (b : ℕ) (bs : List ℕ) → step_of index m b ≡ alive n → Closes m (b ∷ bs) → Closes n bs
  goes_on m n b bs e l = rw (run_first (step_of index) m n b bs e) at l

  drops_out : (m : ShiftJis) (d : Reason) (b : ℕ) (bs : List ℕ) → step_of index m b ≡ none d → Closes m (b ∷ bs) → ⊥
  unfolding ended
  drops_out m d b bs e l = let k : Lives (ended close_of (none d)) = rw (run_drops (step_of index) m d b bs e) at l in none_live k.1.1

  -- a lead, and the end
  cut_lead : (lead : ℕ) → is_lead lead ≡ true → Closes (holds lead) [] → ⊥
  unfolding ended close_of plus
  cut_lead lead l c =
      let k : Lives (ended close_of (alive (holds lead))) = rw run_nil at c in
      none_live (rw (ne_eqb lead 0 (λ (z : lead ≡ 0). omega (arith, lead_least lead l))) at k).1.1

  module _ (lead b : ℕ) (xs : List ℕ) (l : is_lead lead ≡ true) (rest : Closes fresh xs → Text index xs) (c : Closes (holds lead) (b ∷ xs)) where
    -- a sequence more in front
    pair_then : (p : ℕ) → Yields index (lead ∷ b ∷ []) p → handler index lead (byte b) ≡ code_point p 0 → Text index (lead ∷ b ∷ xs)
    unfolding outcome_by
    pair_then p y e = then (lead ∷ b ∷ []) y (rest (goes_on (holds lead) fresh b xs (stepped lead b _ e) c))

    pair_drops : (restored : List ℕ) → handler index lead (byte b) ≡ error restored 0 → Text index (lead ∷ b ∷ xs)
    unfolding outcome_by
    pair_drops restored e = absurd (drops_out (holds lead) BadByte b xs (stepped lead b _ e) c)

    pair_text : (t u v : Bool) → is_trail b ≡ t → is_private_lead lead ≡ u → is_mapped (entry_of index lead b) ≡ v → Text index (lead ∷ b ∷ xs)
    pair_text true true v t f g = pair_then _ (private_use lead b f t) (after_lead index lead b l ∙ next_private index lead b l t f)
    pair_text true false true t f g = pair_then _ (mapped lead b l f t g) (after_lead index lead b l ∙ next_mapped index lead b l t f g)
    pair_text true false false t f g = pair_drops _ (after_lead index lead b l ∙ next_unmapped index lead b l t f g)
    pair_text false u v t f g = pair_drops _ (after_lead index lead b l ∙ next_no_trail index lead b l t)

  module _ (b : ℕ) (xs : List ℕ) (rest : Closes fresh xs → Text index xs) (pairs : is_lead b ≡ true → Closes (holds b) xs → Text index (b ∷ xs)) where
    first_text : (t u v : Bool) → ltb b 0x81 ≡ t → between 0xA1 0xDF b ≡ u → is_lead b ≡ v → Closes fresh (b ∷ xs) → Text index (b ∷ xs)
    unfolding step_of
    first_text true u v e f g c =
        let h = ltb-true b 0x81 e in
        then (b ∷ []) (itself b (inside 0x00 0x80 b (omega arith) (omega arith))) (rest (goes_on fresh fresh b xs (sym (first_low b h)) c))
    first_text false true v e f g c = then (b ∷ []) (katakana b f) (rest (goes_on fresh fresh b xs (sym (first_katakana b f)) c))
    first_text false false true e f g c = pairs g (goes_on fresh (holds b) b xs (sym (first_lead b g)) c)
    first_text false false false e f g c = absurd (drops_out fresh BadByte b xs (sym (first_rest b (ltb-false b 0x81 e) g f)) c)

  closed_text : (xs : List ℕ) → Closes fresh xs → Text index xs
  closed_text [] c = empty
  closed_text (b ∷ []) c =
      first_text b [] (λ k. empty) (λ l k. absurd (cut_lead b l k)) (ltb b 0x81) (between 0xA1 0xDF b) (is_lead b) refl refl refl c
  closed_text (b ∷ d ∷ ds) c =
      first_text b (d ∷ ds) (closed_text (d ∷ ds)) (λ l k. pair_text b d ds l (closed_text ds) k (is_trail d) (is_private_lead b) (is_mapped (entry_of index b d)) refl refl refl) (ltb b 0x81) (between 0xA1 0xDF b) (is_lead b) refl refl refl c

  lives_more : (k : ℤ) (o : Outcome ShiftJis) → Lives o → Lives (plus k o)
  unfolding plus
  lives_more k o l = (l.0, (k +ℤ l.1.0, ap (plus k) l.1.1))

  -- ---- the theorem, both ways: from the fresh record, with any score
  module _ (s : ℤ) (xs : List ℕ) where
    -- A text: the machine lives at the close, with its score.
    pub text_closes : Text index xs → ended close_of (run (step_of index) (live fresh s) xs) ≡ live fresh s
    unfolding ended close_of plus
    text_closes t = ap (ended close_of) (lives (step_of index) fresh fresh s xs (text_run xs t)) ∙ ap (live fresh) (+ℤ_idr s)

    -- The machine lives at the close: a text.
    pub closes_text : Lives (ended close_of (run (step_of index) (live fresh s) xs)) → Text index xs
    unfolding ended
    closes_text l =
        let o = ended_live close_of (run (step_of index) (live fresh s) xs) l in
        let q = plus_live s (run (step_of index) (alive fresh) xs) o.0 o.1.0 (sym (from_zero (step_of index) fresh s xs) ∙ o.1.1.0) in
        closed_text xs (rw q.1 (lives_more q.0 (close_of o.0) o.1.1.1))

  -- ---- so for the Standard's decoder over a whole stream: no error exactly if the bytes are a text
  module _ (xs : List ℕ) where
    pub text_decoded : Text index xs → outcome_of (last_by (handler index) reason_of 0 xs) (decoded_by (handler index) 0 xs) ≡ alive fresh
    text_decoded t = sym (stream_agrees index xs) ∙ text_closes (pos 0) xs t

    pub decoded_text : Lives (outcome_of (last_by (handler index) reason_of 0 xs) (decoded_by (handler index) 0 xs)) → Text index xs
    decoded_text l = closes_text (pos 0) xs (rw (← stream_agrees index xs) at l)
