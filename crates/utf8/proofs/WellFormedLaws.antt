-- The UTF-8 machine lives through exactly the bytes that the table of well-formed sequences makes, and is whole at the close
-- exactly if nothing of them is cut.
use Rattle.std.specs.Prelude.{◌≡◌, refl, Bool, ◌&&◌, ◌||◌, List, [], ◌∷◌, ◌++◌, ℕ, suc, ◌-◌, ◌≤◌, T, eqb, ltb, leb, ℤ, pos, negsuc, length}
use Rattle.std.proofs.Math.Path.{sym, ap}
use Rattle.std.proofs.Common.{subst, ◌∙◌, append_assoc, append-nil, inl, inr, arith, eqb→eq, leb→le, ltb-true, ltb-false}
use Rattle.std.proofs.Math.Bool.{true, false}
use Rattle.std.proofs.Math.IntN.{+ℤ_idr}
use Rattle.laws.specs.declared.Reason.{Reason}
use Rattle.laws.specs.declared.Reason.TheVariants.{BadByte}
use Rattle.laws.specs.Run.{Outcome, none, live, plus, run, run_append, run_nil, ended, alive}
use Rattle.laws.specs.Still.{Lives, run_first, none_live, plus_live, ended_live}
use Rattle.laws.proofs.Still.{lives, lives_begun, from_zero, run_drops}
use Rattle.laws.specs.Validator.{decoded_by, last_by}
use Rattle.laws.specs.Table.{and_left, and_right, every, nothing, within}
use Rattle.octets.specs.Octets.{between}
use Rattle.octets.specs.BetweenLaws.{between_low, between_high}
use Rattle.utf8.specs.declared.Utf8.{Utf8}
use Rattle.utf8.specs.WellFormed.{Range, Row, table, Fits, FitsOne, WellFormed, Text, empty, then, Cut, Streams}
use Rattle.utf8.specs.Utf8.{needs, fresh, lead_of, step_of, close_of}
use Rattle.utf8.specs.Standard.{initial, handler}
use Rattle.utf8.specs.Agreement.{reason_of, outcome_of}
use Rattle.utf8.proofs.AgreementLaws.{stream_agrees}
use Rattle.utf8.specs.Utf8Laws.{step_lead, step_within, step_outside, lead_late, close_whole}

-- ---- the record that waits for the rest of a row
abbrev waits : Row → Utf8
waits [] = fresh
waits (r ∷ rs) = needs (suc (length rs)) r.low r.high

-- ---- a row's first byte, by one test that the checker computes over the row's range
abbrev is_zero : ℤ → Bool
is_zero (pos n) = eqb n 0
is_zero (negsuc n) = false

abbrev same : Utf8 → Outcome Utf8 → Bool
same m (none d) = false
same m (live n s) = eqb n.need m.need && (eqb n.lo m.lo && (eqb n.hi m.hi && is_zero s))

zero_is : (s : ℤ) → T (is_zero s) → s ≡ pos 0
zero_is (pos n) t = ap pos (eqb→eq n 0 t)
zero_is (negsuc n) t = absurd t

same_is : (m : Utf8) (o : Outcome Utf8) → T (same m o) → o ≡ alive m
same_is m (none d) t = absurd t
same_is m (live n s) t =
    let u = and_right (eqb n.need m.need) _ t in
    let v = and_right (eqb n.lo m.lo) _ u in
    let e : n.need ≡ m.need = eqb→eq _ _ (and_left (eqb n.need m.need) _ t) in
    let f : n.lo ≡ m.lo = eqb→eq _ _ (and_left (eqb n.lo m.lo) _ u) in
    let g : n.hi ≡ m.hi = eqb→eq _ _ (and_left (eqb n.hi m.hi) _ v) in
    rw (← e, ← f, ← g, zero_is s (and_right (eqb n.hi m.hi) _ v))

-- ---- what is left of a row: only the next byte's range can be cut
abbrev Plain : Row → Type 0
Plain [] = Unit {0}
Plain (r ∷ rs) = ((r.low ≡ 0x80) × (r.high ≡ 0xBF)) × Plain rs

abbrev Rest : Row → Type 0
Rest [] = Unit {0}
Rest (r ∷ rs) = (r.low ≤ r.high) × Plain rs

plain_rest : (rs : Row) → Plain rs → Rest rs
plain_rest [] p = tt
plain_rest (r ∷ rs) p = (omega (arith, p.0.0, p.0.1), p.1)

-- the rows: each first byte leads to the record that waits for the rest
abbrev Good : Row → Type 0
Good [] = ⊥
Good (r ∷ rs) = ((b : ℕ) → r.low ≤ b → b ≤ r.high → lead_of b ≡ alive (waits rs)) × Rest rs

abbrev Goods : List Row → Type 0
Goods [] = Unit {0}
Goods (row ∷ rows) = Good row × Goods rows

-- one test of the whole table, which the checker computes
abbrev plain_b : Row → Bool
plain_b [] = true
plain_b (r ∷ rs) = eqb r.low 0x80 && (eqb r.high 0xBF && plain_b rs)

abbrev rest_b : Row → Bool
rest_b [] = true
rest_b (r ∷ rs) = leb r.low r.high && plain_b rs

abbrev leads_b : Range → Row → Bool
leads_b r rs = every (λ (k : ℕ) (u : Unit {0}). same (waits rs) (lead_of k)) r.low (nothing (suc r.high - r.low))

abbrev good_b : List Row → Bool
good_b [] = true
good_b ([] ∷ rows) = false
good_b ((r ∷ rs) ∷ rows) = leads_b r rs && (rest_b rs && good_b rows)

plain_is : (rs : Row) → T (plain_b rs) → Plain rs
plain_is [] t = tt
plain_is (r ∷ rs) t =
    let u = and_right (eqb r.low 0x80) _ t in
    ((eqb→eq _ _ (and_left (eqb r.low 0x80) _ t), eqb→eq _ _ (and_left (eqb r.high 0xBF) _ u)), plain_is rs (and_right (eqb r.high 0xBF) _ u))

rest_is : (rs : Row) → T (rest_b rs) → Rest rs
rest_is [] t = tt
rest_is (r ∷ rs) t = (leb→le _ _ (and_left (leb r.low r.high) _ t), plain_is rs (and_right (leb r.low r.high) _ t))

leads_is : (r : Range) (rs : Row) → T (leads_b r rs) → (b : ℕ) → r.low ≤ b → b ≤ r.high → lead_of b ≡ alive (waits rs)
leads_is r rs t b p q = same_is (waits rs) (lead_of b) (within (λ (k : ℕ). same (waits rs) (lead_of k)) r.low (suc r.high - r.low) t b p (omega arith))

good_is : (rows : List Row) → T (good_b rows) → Goods rows
good_is [] t = tt
good_is ([] ∷ rows) t = absurd t
good_is ((r ∷ rs) ∷ rows) t =
    let u = and_right (leads_b r rs) _ t in
    ((leads_is r rs (and_left (leads_b r rs) _ t), rest_is rs (and_left (rest_b rs) _ u)), good_is rows (and_right (rest_b rs) _ u))

goods : Goods table
unfolding lead_of
goods = good_is table tt

-- ---- a byte within a row
next_waits : (r : Range) (rs : Row) → Rest (r ∷ rs) → needs (suc (length rs) - 1) 0x80 0xBF ≡ waits rs
next_waits r [] p = refl
next_waits r (q ∷ rs) p = let n : suc (suc (length rs)) - 1 ≡ suc (length rs) = omega arith in rw (p.1.0.0, p.1.0.1, n)

module _ (r : Range) (rs : Row) (p : Rest (r ∷ rs)) (b : ℕ) where
  step_in : r.low ≤ b → b ≤ r.high → step_of (waits (r ∷ rs)) b ≡ alive (waits rs)
  step_in l h = sym (step_within (waits (r ∷ rs)) b (λ (e : suc (length rs) ≡ 0). omega arith) l h) ∙ ap alive (next_waits r rs p)

  step_out : between r.low r.high b ≡ false → step_of (waits (r ∷ rs)) b ≡ none BadByte
  step_out e = sym (step_outside (waits (r ∷ rs)) b (λ (e : suc (length rs) ≡ 0). omega arith) e)

-- ---- what the table makes, lives
fits_run : (rs : Row) (bs : List ℕ) → Rest rs → Fits rs bs → run step_of (alive (waits rs)) bs ≡ alive fresh
fits_run [] [] p f = run_nil step_of (alive fresh)
fits_run [] (b ∷ bs) p f = absurd f
fits_run (r ∷ rs) [] p f = absurd f
fits_run (r ∷ rs) (b ∷ bs) p f =
    run_first step_of (waits (r ∷ rs)) (waits rs) b bs (step_in r rs p b f.0.0 f.0.1) ∙ fits_run rs bs (plain_rest rs p.1) f.1

row_run : (row : Row) (bs : List ℕ) → Good row → Fits row bs → run step_of (alive fresh) bs ≡ alive fresh
row_run [] bs g f = absurd g
row_run (r ∷ rs) [] g f = absurd f
row_run (r ∷ rs) (b ∷ bs) g f =
    run_first step_of fresh (waits rs) b bs (sym (step_lead fresh b refl) ∙ g.0 b f.0.0 f.0.1) ∙ fits_run rs bs g.1 f.1

rows_run : (rows : List Row) (bs : List ℕ) → Goods rows → FitsOne rows bs → run step_of (alive fresh) bs ≡ alive fresh
rows_run [] bs g f = absurd f
rows_run (row ∷ rows) bs g (inl f) = row_run row bs g.0 f
rows_run (row ∷ rows) bs g (inr f) = rows_run rows bs g.1 f

well_formed_run : (bs : List ℕ) → WellFormed bs → run step_of (alive fresh) bs ≡ alive fresh
unfolding WellFormed
well_formed_run bs f = rows_run table bs goods f

text_run : (xs : List ℕ) → Text xs → run step_of (alive fresh) xs ≡ alive fresh
text_run xs empty = run_nil step_of (alive fresh)
text_run xs (then u {xs = ys} w t) =
    run_append step_of (alive fresh) u ys ∙ (ap (λ (o : Outcome Utf8). run step_of o ys) (well_formed_run u w) ∙ text_run ys t)

-- ---- what lives, the table makes
first_in : Row → ℕ → Bool
first_in [] b = false
first_in (r ∷ rs) b = between r.low r.high b

any_first : List Row → ℕ → Bool
any_first [] b = false
any_first (row ∷ rows) b = first_in row b || any_first rows b

is_none : Outcome Utf8 → Bool
is_none (none d) = true
is_none (live m s) = false

-- a byte that no row begins with drops out
no_row : (b : ℕ) → T (is_none (lead_of b) || any_first table b)
unfolding lead_of is_none any_first first_in
no_row b = at (ltb b 256) refl
  where
    at : (t : Bool) → ltb b 256 ≡ t → T (is_none (lead_of b) || any_first table b)
    at true e = within (λ (k : ℕ). is_none (lead_of k) || any_first table k) 0 256 tt b (omega arith) (omega (arith, ltb-true b 256 e))
    at false e = rw (← lead_late b (omega (arith, ltb-false b 256 e))) tt

-- the row that the byte begins
record Begun (rows : List Row) (b : ℕ) : Type 0 where
  rest : Row
  leads_to : lead_of b ≡ alive (waits rest)
  good : Rest rest
  fits : (bs : List ℕ) → Fits rest bs → FitsOne rows (b ∷ bs)

begun_at : (r : Range) (rs : Row) (rows : List Row) (b : ℕ) → Good (r ∷ rs) → (u : Bool) → between r.low r.high b ≡ u → T (u || any_first rows b) → (T (any_first rows b) → Begun rows b) → Begun ((r ∷ rs) ∷ rows) b
begun_at r rs rows b g true e f o =
    let l = between_low _ _ _ e in
    let h = between_high _ _ _ e in
    record { rest = rs; leads_to = g.0 b l h; good = g.1; fits = λ (bs : List ℕ) (q : Fits rs bs). inl ((l, h), q) }
begun_at r rs rows b g false e f o =
    record { rest = (o f).rest; leads_to = (o f).leads_to; good = (o f).good; fits = λ (bs : List ℕ) (q : Fits (o f).rest bs). inr ((o f).fits bs q) }

begun : (rows : List Row) (b : ℕ) → Goods rows → T (any_first rows b) → Begun rows b
unfolding any_first first_in
begun [] b g t = absurd t
begun ([] ∷ rows) b g t = absurd g.0
begun ((r ∷ rs) ∷ rows) b g t = begun_at r rs rows b g.0 (between r.low r.high b) refl t (begun rows b g.1)

-- where a reader of the bytes is: between two sequences, or after the first bytes of one, of whose row this is left
data Reading : List ℕ → Row → Type 0 where
  between_two : Reading [] []
  within_one : {first : List ℕ} {r : Range} {rs : Row} → Rest (r ∷ rs) → ((bs : List ℕ) → Fits (r ∷ rs) bs → WellFormed (first ++ bs)) → Reading first (r ∷ rs)

-- what was read: sequences and the beginning of one, of which nothing is there where the record needs no byte
record Read (m : Utf8) (xs : List ℕ) : Type 0 where
  streams : Streams xs
  closed : m.need ≡ 0 → streams.ending ≡ []

lows : Row → List ℕ
lows [] = []
lows (r ∷ rs) = r.low ∷ lows rs

fits_lows : (rs : Row) → Rest rs → Fits rs (lows rs)
unfolding lows
fits_lows [] p = tt
fits_lows (r ∷ rs) p = ((omega arith, p.0), fits_lows rs (plain_rest rs p.1))

-- no byte is left
nothing_cut : Cut []
unfolding WellFormed
nothing_cut = record { next = 0; others = []; whole = inl ((omega arith, omega arith), tt) }

read_end : (first : List ℕ) (rs : Row) → Reading first rs → Read (waits rs) (first ++ [])
unfolding lows
read_end first rs between_two =
    record { streams = record { sequences = []; ending = []; parts = refl; text = empty; cut = nothing_cut }; closed = λ e. refl }
read_end first rs (within_one {r = q} {rs = qs} p f) =
    record { streams = record { sequences = []; ending = first; parts = append-nil first; text = empty; cut = record { next = q.low; others = lows qs; whole = f (lows (q ∷ qs)) (fits_lows (q ∷ qs) p) } }; closed = λ e. absurd (omega (arith, e)) }

-- a sequence more in front
more : (m : Utf8) (u xs : List ℕ) → WellFormed u → Read m xs → Read m (u ++ xs)
more m u xs w o =
    let t = o.streams in
    record { streams = record { sequences = u ++ t.sequences; ending = t.ending; parts = ap (λ (l : List ℕ). u ++ l) t.parts ∙ sym (append_assoc u t.sequences t.ending); text = then u w t.text; cut = t.cut }; closed = o.closed }

abbrev Reads : Utf8 → List ℕ → Type 0
Reads m xs = (first : List ℕ) (rs : Row) (s : ℤ) → Reading first rs → run step_of (alive (waits rs)) xs ≡ live m s → Read m (first ++ xs)

-- a byte was taken: the sequence is whole, or goes on
settle : (m : Utf8) (xs : List ℕ) (first : List ℕ) (rs : Row) (s : ℤ) → Rest rs → ((bs : List ℕ) → Fits rs bs → WellFormed (first ++ bs)) → run step_of (alive (waits rs)) xs ≡ live m s → Reads m xs → Read m (first ++ xs)
settle m xs first [] s p f e rest = more m first xs (rw append-nil at (f [] tt)) (rest [] [] s between_two e)
settle m xs first (r ∷ rs) s p f e rest = rest first (r ∷ rs) s (within_one p f) e

none_is : (o : Outcome Utf8) → T (is_none o) → (d : Reason) × (o ≡ none d)
unfolding is_none
none_is (none d) t = (d, refl)
none_is (live m s) t = absurd t

module _ (m : Utf8) (b : ℕ) (xs : List ℕ) (s : ℤ) (rest : Reads m xs) where
  -- a byte that begins a sequence
  lead_read : (t : Bool) → is_none (lead_of b) ≡ t → run step_of (alive fresh) (b ∷ xs) ≡ live m s → Read m (b ∷ xs)
  unfolding WellFormed
  lead_read true n e =
      let d = none_is (lead_of b) (rw n tt) in
      absurd (none_live (sym (run_drops step_of fresh d.0 b xs (sym (step_lead fresh b refl) ∙ d.1)) ∙ e))
  lead_read false n e =
      let o = begun table b goods (rw n at (no_row b)) in
      let l : step_of fresh b ≡ alive (waits o.rest) = sym (step_lead fresh b refl) ∙ o.leads_to in
      settle m xs (b ∷ []) o.rest s o.good o.fits (sym (run_first step_of fresh (waits o.rest) b xs l) ∙ e) rest

  -- a byte within one
  trail_read : (first : List ℕ) (r : Range) (rs : Row) → Rest (r ∷ rs) → ((bs : List ℕ) → Fits (r ∷ rs) bs → WellFormed (first ++ bs)) → (t : Bool) → between r.low r.high b ≡ t → run step_of (alive (waits (r ∷ rs))) (b ∷ xs) ≡ live m s → Read m (first ++ (b ∷ xs))
  trail_read first r rs p f true n e =
      let l = between_low r.low r.high b n in
      let h = between_high r.low r.high b n in
      let g : (bs : List ℕ) → Fits rs bs → WellFormed (first ++ (b ∷ []) ++ bs) = λ (bs : List ℕ) (q : Fits rs bs). rw append_assoc (f (b ∷ bs) ((l, h), q)) in
      rw append_assoc at (settle m xs (first ++ (b ∷ [])) rs s (plain_rest rs p.1) g (sym (run_first step_of (waits (r ∷ rs)) (waits rs) b xs (step_in r rs p b l h)) ∙ e) rest)
  trail_read first r rs p f false n e = absurd (none_live (sym (run_drops step_of (waits (r ∷ rs)) BadByte b xs (step_out r rs p b n)) ∙ e))

  byte_read : (first : List ℕ) (rs : Row) → Reading first rs → run step_of (alive (waits rs)) (b ∷ xs) ≡ live m s → Read m (first ++ (b ∷ xs))
  byte_read first rs between_two e = lead_read (is_none (lead_of b)) refl e
  byte_read first rs (within_one {r = q} {rs = qs} p f) e = trail_read first q qs p f (between q.low q.high b) refl e

reads : (m : Utf8) (xs : List ℕ) → Reads m xs
reads m [] first rs s st e =
    let q : alive (waits rs) ≡ live m s = sym (run_nil step_of (alive (waits rs))) ∙ e in
    let w : waits rs ≡ m = cc in
    subst (λ (n : Utf8). Read n (first ++ [])) w (read_end first rs st)
reads m (b ∷ xs) first rs s st e = byte_read m b xs s (reads m xs) first rs st e

-- ---- the theorem, both ways: from the fresh record, with any score
module _ (s : ℤ) (xs : List ℕ) where
  -- whole sequences leave the machine fresh
  pub text_lives : Text xs → run step_of (live fresh s) xs ≡ live fresh s
  text_lives t = lives step_of fresh fresh s xs (text_run xs t)

  -- Whole well-formed sequences and at most one that is cut: the machine lives.
  pub streams_live : Streams xs → Lives (run step_of (live fresh s) xs)
  streams_live o =
      let c = o.cut in
      let w : run step_of (live fresh s) (o.ending ++ (c.next ∷ c.others)) ≡ live fresh s = lives step_of fresh fresh s (o.ending ++ (c.next ∷ c.others)) (well_formed_run (o.ending ++ (c.next ∷ c.others)) c.whole) in
      let l = lives_begun step_of (live fresh s) o.ending (c.next ∷ c.others) (fresh, (s, w)) in
      let q : run step_of (live fresh s) xs ≡ run step_of (live fresh s) o.ending = ap (run step_of (live fresh s)) o.parts ∙ (run_append step_of (live fresh s) o.sequences o.ending ∙ ap (λ (p : Outcome Utf8). run step_of p o.ending) (lives step_of fresh fresh s o.sequences (text_run o.sequences o.text))) in
      (l.0, (l.1.0, q ∙ l.1.1))

  read_at : (m : Utf8) (t : ℤ) → run step_of (live fresh s) xs ≡ live m t → Read m xs
  read_at m t e =
      let q = plus_live s (run step_of (alive fresh) xs) m t (sym (from_zero step_of fresh s xs) ∙ e) in
      reads m xs [] [] q.0 between_two q.1

  -- The machine lives: whole well-formed sequences and at most one that is cut.
  pub live_streams : Lives (run step_of (live fresh s) xs) → Streams xs
  live_streams l = (read_at l.0 l.1.0 l.1.1).streams

  -- Whole well-formed sequences: the machine lives at the close, with its score.
  pub text_closes : Text xs → ended close_of (run step_of (live fresh s) xs) ≡ live fresh s
  unfolding ended close_of plus
  text_closes t = ap (ended close_of) (text_lives t) ∙ ap (live fresh) (+ℤ_idr s)

  -- The machine lives at the close: whole well-formed sequences.
  pub closes_text : Lives (ended close_of (run step_of (live fresh s) xs)) → Text xs
  closes_text l =
      let o = ended_live close_of (run step_of (live fresh s) xs) l in
      let r = read_at o.0 o.1.0 o.1.1.0 in
      let t = r.streams in
      let e : t.sequences ≡ xs = sym (t.parts ∙ (ap (λ (y : List ℕ). t.sequences ++ y) (r.closed (close_whole o.0 o.1.1.1)) ∙ append-nil t.sequences)) in
      subst Text e t.text

-- ---- so for the Standard's decoder over a whole stream: no error exactly if the bytes are whole well-formed sequences
module _ (xs : List ℕ) where
  pub text_decoded : Text xs → outcome_of (last_by handler reason_of initial xs) (decoded_by handler initial xs) ≡ alive fresh
  text_decoded t = sym (stream_agrees xs) ∙ text_closes (pos 0) xs t

  pub decoded_text : Lives (outcome_of (last_by handler reason_of initial xs) (decoded_by handler initial xs)) → Text xs
  decoded_text l = closes_text (pos 0) xs (rw (← stream_agrees xs) at l)
