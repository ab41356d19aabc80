-- The edge lines on EUC-KR, for all lent data that meets the line's premise.
use Rattle.std.specs.Prelude.{◌≡◌, Bool, true, false, cond, ◌&&◌, List, [], ◌∷◌, ℕ, zero, suc, ◌+◌, ltb, ℤ, ◌+ℤ◌, get_or, None, Some, Option}
use Rattle.std.proofs.Math.Path.{refl, ap}
use Rattle.std.proofs.Common.{sym, ◌∙◌, arith, le-ltb}
use Rattle.std.proofs.Math.IntN.{pos, +ℤ_idl, +ℤ_idr, +ℤ_assoc, +ℤ_comm}
use Rattle.laws.specs.Tests.{picked}
use Rattle.laws.specs.Run.{Outcome, live, plus, plus_plus, with_byte, run, run_plus}
use Rattle.laws.specs.Still.{Lives}
use Rattle.octets.specs.Octets.{between}
use Rattle.laws.specs.Handler.{vars_of}
use Rattle.pairs.specs.Pairs.{is_lead, decoded}
use Rattle.pairs.specs.Standard.{first}
use Rattle.pairs.specs.Events.{event_of}
use Rattle.pairs.specs.Ranges.{inside, below, above, range_true}
use Rattle.pairs.specs.SequencesLaws.{first_lead, pair_seen}
use Rattle.pairs.specs.declared.Event.TheVariants.{Pending, Point}
use Rattle.euckr_decoder.specs.Standard.{is_trail, layout, pointer_of, is_mapped, points_of, pair_of, decode_of}
use Rattle.euckr_decoder.proofs.StandardLaws.{mapped_pair}
use Rattle.euckr.specs.Scoring.{extra_of, is_euc, is_hangul, hangul_after, long_of, scored, holds_of, around_of, inner_of, outer_of, hangul_of, other_of, unit_of, extension_of, after_byte, stray_of, error_of, fresh, Lent, lent, step_of}
use Rattle.euckr.specs.Ways.{step_on}
use Rattle.euckr.specs.declared.EucKr.{EucKr}
use Rattle.euckr.specs.declared.LatinKorean.{LatinKorean}
use Rattle.euckr.specs.declared.LatinKorean.TheVariants.{AsciiLetter, Hangul, Hanja, Other}
use Rattle.euckr.specs.declared.Scale.{Scale}
use Rattle.euckr.specs.declared.Scored.{Scored}

-- ---- words of Hangul
-- a pair that the index maps to a Hangul
pub record HangulPair (index : List ℕ) (lead b : ℕ) : Type 0 where
  pub a_lead : is_lead lead ≡ true
  pub a_trail : is_trail b ≡ true
  pub a_hangul : is_hangul (get_or index (pointer_of lead b) 0) ≡ true

-- the bytes are n Hangul, one after the other
pub data Word (index : List ℕ) : ℕ → List ℕ → Type 0 where
  no_hangul : Word index 0 []
  a_hangul : (n lead b : ℕ) (bs : List ℕ) → HangulPair index lead b → Word index n bs → Word index (suc n) (lead ∷ b ∷ bs)

-- the same lent data with a long-word weight of 0
abbrev pub without_long : Scale → Scale
without_long w = record { adjacency = w.adjacency; other = w.other; hangul = w.hangul; outer = w.outer; hanja = w.hanja; mixed = w.mixed; pua = w.pua; mac = w.mac; extension = w.extension; long = pos 0 }

abbrev pub short_words : Lent → Lent
short_words t = lent t.index t.extras (without_long t.scale)

-- what n more Hangul of a word that has k already add for its length
unfoldable pub longs_of : Scale → ℕ → ℕ → ℤ
longs_of w k zero = pos 0
longs_of w k (suc n) = long_of w (k + 1) +ℤ longs_of w (k + 1) n

-- ---- the length's part of a Hangul's score
pick_zero : (t : Bool) → cond t (pos 0) (pos 0) ≡ pos 0
pick_zero true = refl
pick_zero false = refl

no_long : (w : Scale) (n : ℕ) → long_of (without_long w) n ≡ pos 0
unfolding long_of
no_long w n = pick_zero (ltb 5 n)

-- the score's change is larger by l
abbrev more : ℤ → Scored → Scored
more l s = scored s.prev s.word s.held (l +ℤ s.gain)

more_pick : (l : ℤ) (t : Bool) (a b a₀ b₀ : Scored) → a ≡ more l a₀ → b ≡ more l b₀ → cond t a b ≡ more l (cond t a₀ b₀)
more_pick l true a b a₀ b₀ p q = p
more_pick l false a b a₀ b₀ p q = q

module _ (w : Scale) (m : EucKr) where
  abbrev l : ℤ
  l = long_of w (m.current_word_len + 1)

  same_after : (k : LatinKorean) → hangul_after (without_long w) k ≡ hangul_after w k
  same_after AsciiLetter = refl
  same_after Hangul = refl
  same_after Hanja = refl
  same_after Other = refl

  around_more : around_of w m ≡ l +ℤ around_of (without_long w) m
  unfolding around_of
  around_more = rw (no_long w (m.current_word_len + 1), same_after m.prev, +ℤ_idr) (+ℤ_comm _ l)

  inner_more : (x : ℤ) → inner_of w m x ≡ more l (inner_of (without_long w) m x)
  unfolding inner_of
  inner_more x =
      let a = around_of (without_long w) m in
      ap (λ (z : ℤ). scored Hangul (m.current_word_len + 1) None (z +ℤ w.hangul +ℤ x)) around_more
      ∙ ap (λ (z : ℤ). scored Hangul (m.current_word_len + 1) None z) (ap (λ (z : ℤ). z +ℤ x) (+ℤ_assoc l a w.hangul) ∙ +ℤ_assoc l (a +ℤ w.hangul) x)

  outer_more : outer_of w m ≡ more l (outer_of (without_long w) m)
  unfolding outer_of
  outer_more =
      let a = around_of (without_long w) m in
      let n = m.current_word_len + 1 in
      more_pick l (holds_of m) (scored Hangul n (Some w.outer) (around_of w m)) (scored Hangul n None (around_of w m +ℤ w.outer)) (scored Hangul n (Some w.outer) a) (scored Hangul n None (a +ℤ w.outer)) (ap (scored Hangul n (Some w.outer)) around_more) (ap (λ (z : ℤ). scored Hangul n None (z +ℤ w.outer)) around_more ∙ ap (scored Hangul n None) (+ℤ_assoc l a w.outer))

  hangul_more : (extras : List ℤ) (u b : ℕ) → hangul_of w m extras u b ≡ more l (hangul_of (without_long w) m extras u b)
  unfolding hangul_of
  hangul_more extras u b = more_pick l (m.prev_was_euc_range && is_euc b) (inner_of w m (extra_of extras u)) (outer_of w m) (inner_of (without_long w) m (extra_of extras u)) (outer_of (without_long w) m) (inner_more (extra_of extras u)) outer_more

  hangul_word : (extras : List ℤ) (u b : ℕ) → (hangul_of w m extras u b).word ≡ m.current_word_len + 1
  unfolding hangul_of inner_of outer_of
  hangul_word extras u b =
      picked (λ (s : Scored). s.word ≡ (m.current_word_len + 1)) (m.prev_was_euc_range && is_euc b) refl
      (picked (λ (s : Scored). s.word ≡ (m.current_word_len + 1)) (holds_of m) refl refl)

-- ---- a pair of bytes that is a Hangul
unit_hangul : (w : Scale) (extras : List ℤ) (m : EucKr) (u b : ℕ) → is_hangul u ≡ true → unit_of w extras m u b ≡ hangul_of w m extras u b
unfolding unit_of
unit_hangul w extras m u b e =
    let h = range_true 0xAC00 0xD7A3 u e in
    rw (above 0x61 0x7A u (omega arith), above 0x41 0x5A u (omega arith), e)

hangul_mapped : (u : ℕ) → is_hangul u ≡ true → is_mapped u ≡ true
hangul_mapped u e = let h = range_true 0xAC00 0xD7A3 u e in rw (inside 0x80 0xD7FF u (omega arith) (omega arith))

-- the record after a lead
abbrev waiting : EucKr → ℕ → EucKr
waiting m lead = record { lead = lead; prev_byte = lead; prev_was_euc_range = is_euc lead; prev = m.prev; current_word_len = m.current_word_len; held = m.held }

-- what a mapped pair decodes to
pair_point : (t : Lent) (lead b : ℕ) → is_lead lead ≡ true → is_trail b ≡ true → is_mapped (get_or t.index (pointer_of lead b) 0) ≡ true → decoded 0 (Point (get_or t.index (pointer_of lead b) 0)) ≡ decode_of t.index lead b
unfolding decode_of pair_of
pair_point t lead b l r e = sym (pair_seen layout (points_of t.index) lead b l ∙ ap (decoded 0) (mapped_pair t.index lead b r e))

module _ (t : Lent) where
  lead_decoded : (lead x : ℕ) → x ≡ 0 → is_lead lead ≡ true → decoded lead Pending ≡ decode_of t.index x lead
  unfolding decode_of
  lead_decoded lead x z e = rw (z, first_lead lead e)

  lead_step : (m : EucKr) (lead : ℕ) → m.lead ≡ 0 → is_lead lead ≡ true → step_of t m lead ≡ live (waiting m lead) (pos 0)
  lead_step m lead z e = sym (step_on t m lead (decoded lead Pending) (lead_decoded lead m.lead z e) Pending refl)

  module _ (lead b : ℕ) (pair : HangulPair t.index lead b) where
    abbrev unit : ℕ
    unit = get_or t.index (pointer_of lead b) 0

    pair_decoded : decoded 0 (Point unit) ≡ decode_of t.index lead b
    pair_decoded = pair_point t lead b pair.a_lead pair.a_trail (hangul_mapped unit pair.a_hangul)

    trail_step : (m : EucKr) → step_of t (waiting m lead) b ≡ after_byte 0 b (hangul_of t.scale (waiting m lead) t.extras unit b)
    trail_step m =
        sym (step_on t (waiting m lead) b (decoded 0 (Point unit)) pair_decoded (Point unit) refl) ∙ ap (after_byte 0 b) (unit_hangul t.scale t.extras (waiting m lead) unit b pair.a_hangul)

    pair_run : (m : EucKr) (s : ℤ) (bs : List ℕ) → m.lead ≡ 0 → run (step_of t) (live m s) (lead ∷ b ∷ bs) ≡ run (step_of t) (plus (s +ℤ pos 0) (after_byte 0 b (hangul_of t.scale (waiting m lead) t.extras unit b))) bs
    unfolding run with_byte plus
    pair_run m s bs z = rw (lead_step m lead z pair.a_lead, trail_step m)

  -- ---- a word of Hangul: what the long-word weight adds to it
  swap : (x y z : ℤ) → x +ℤ (y +ℤ z) ≡ y +ℤ (x +ℤ z)
  swap x y z = sym (+ℤ_assoc x y z) ∙ (ap (λ (k : ℤ). k +ℤ z) (+ℤ_comm x y) ∙ +ℤ_assoc y x z)

  module _ (n lead b : ℕ) (bs : List ℕ) (pair : HangulPair t.index lead b) (m : EucKr) (s : ℤ) (z : m.lead ≡ 0) where
    abbrev plain : Scored
    plain = hangul_of (without_long t.scale) (waiting m lead) t.extras (unit lead b pair) b

    abbrev next : EucKr
    next = record { lead = 0; prev_byte = b; prev_was_euc_range = is_euc b; prev = plain.prev; current_word_len = plain.word; held = plain.held }

    abbrev grown : ℤ
    grown = long_of t.scale (m.current_word_len + 1)

    abbrev score : ℤ
    score = s +ℤ pos 0 +ℤ plain.gain

    one_more : plus (s +ℤ pos 0) (after_byte 0 b (hangul_of t.scale (waiting m lead) t.extras (unit lead b pair) b)) ≡ plus grown (live next score)
    unfolding plus
    one_more = rw (hangul_more t.scale (waiting m lead) t.extras (unit lead b pair) b) (ap (live next) (swap (s +ℤ pos 0) grown plain.gain))

    word_step : run (step_of (short_words t)) (live m s) (lead ∷ b ∷ bs) ≡ run (step_of (short_words t)) (live next score) bs → ((o : EucKr) (y : ℤ) → o.lead ≡ 0 → run (step_of t) (live o y) bs ≡ plus (longs_of t.scale o.current_word_len n) (run (step_of (short_words t)) (live o y) bs)) → run (step_of t) (live m s) (lead ∷ b ∷ bs) ≡ plus (grown +ℤ longs_of t.scale (m.current_word_len + 1) n) (run (step_of (short_words t)) (live m s) (lead ∷ b ∷ bs))
    word_step short rest =
        let k = m.current_word_len + 1 in
        let o = run (step_of (short_words t)) (live next score) bs in
        pair_run lead b pair m s bs z
        ∙ (ap (λ (q : Outcome EucKr). run (step_of t) q bs) one_more
        ∙ (run_plus (step_of t) grown (live next score) bs
        ∙ (ap (plus grown) (rest next score refl ∙ ap (λ (j : ℕ). plus (longs_of t.scale j n) o) (hangul_word (without_long t.scale) (waiting m lead) t.extras (unit lead b pair) b))
        ∙ (plus_plus grown (longs_of t.scale k n) o
        ∙ ap (plus (grown +ℤ longs_of t.scale k n)) (sym short)))))

no_bytes : (t : Lent) (m : EucKr) (s : ℤ) → run (step_of t) (live m s) [] ≡ plus (longs_of t.scale m.current_word_len 0) (run (step_of (short_words t)) (live m s) [])
unfolding longs_of run plus
no_bytes t m s = ap (live m) (sym (+ℤ_idl s))

module _ (t : Lent) (n lead b : ℕ) (bs : List ℕ) (pair : HangulPair t.index lead b) (m : EucKr) (s : ℤ) (z : m.lead ≡ 0) where
  short_run : run (step_of (short_words t)) (live m s) (lead ∷ b ∷ bs) ≡ run (step_of (short_words t)) (live (next t n lead b bs pair m s z) (score t n lead b bs pair m s z)) bs
  unfolding plus
  short_run = pair_run (short_words t) lead b pair m s bs z

  more_bytes : ((o : EucKr) (y : ℤ) → o.lead ≡ 0 → run (step_of t) (live o y) bs ≡ plus (longs_of t.scale o.current_word_len n) (run (step_of (short_words t)) (live o y) bs)) → run (step_of t) (live m s) (lead ∷ b ∷ bs) ≡ plus (longs_of t.scale m.current_word_len (suc n)) (run (step_of (short_words t)) (live m s) (lead ∷ b ∷ bs))
  unfolding longs_of
  more_bytes rest = word_step t n lead b bs pair m s z short_run rest

-- a word is scored as without the long-word weight, and that weight is added for each Hangul after the fifth
pub word_run : (t : Lent) (n : ℕ) (bs : List ℕ) → Word t.index n bs → (m : EucKr) (s : ℤ) → m.lead ≡ 0 → run (step_of t) (live m s) bs ≡ plus (longs_of t.scale m.current_word_len n) (run (step_of (short_words t)) (live m s) bs)
word_run t n bs no_hangul m s z = no_bytes t m s
word_run t n₁ bs₁ (a_hangul n lead b bs pair rest) m s z = more_bytes t n lead b bs pair m s z (λ o y e. word_run t n bs rest o y e)

-- and it lives
pub word_lives : (t : Lent) (n : ℕ) (bs : List ℕ) → Word t.index n bs → (m : EucKr) (s : ℤ) → m.lead ≡ 0 → Lives (run (step_of t) (live m s) bs)
unfolding run plus
word_lives t n bs no_hangul m s z = (m, (s, refl))
word_lives t n₁ bs₁ (a_hangul n lead b bs pair rest) m s z = rw (pair_run t lead b pair m s bs z) (word_lives t n bs rest _ _ refl)

-- ---- the edge lines: five Hangul, six, seven
five_zeros : (x : ℤ) → pos 0 +ℤ (pos 0 +ℤ (pos 0 +ℤ (pos 0 +ℤ (pos 0 +ℤ x)))) ≡ x
five_zeros x = +ℤ_idl _ ∙ (+ℤ_idl _ ∙ (+ℤ_idl _ ∙ (+ℤ_idl _ ∙ +ℤ_idl x)))

module _ (t : Lent) (bs : List ℕ) where
  pub five : Word t.index 5 bs → run (step_of t) (live fresh (pos 0)) bs ≡ plus (pos 0) (run (step_of (short_words t)) (live fresh (pos 0)) bs)
  unfolding longs_of long_of
  five w = word_run t 5 bs w fresh (pos 0) refl

  pub six : Word t.index 6 bs → run (step_of t) (live fresh (pos 0)) bs ≡ plus t.scale.long (run (step_of (short_words t)) (live fresh (pos 0)) bs)
  unfolding longs_of long_of
  six w =
      let l = t.scale.long in
      word_run t 6 bs w fresh (pos 0) refl ∙ ap (λ (z : ℤ). plus z (run (step_of (short_words t)) (live fresh (pos 0)) bs)) (five_zeros (l +ℤ pos 0) ∙ +ℤ_idr l)

  pub seven : Word t.index 7 bs → run (step_of t) (live fresh (pos 0)) bs ≡ plus (t.scale.long +ℤ t.scale.long) (run (step_of (short_words t)) (live fresh (pos 0)) bs)
  unfolding longs_of long_of
  seven w =
      let l = t.scale.long in
      word_run t 7 bs w fresh (pos 0) refl ∙ ap (λ (z : ℤ). plus z (run (step_of (short_words t)) (live fresh (pos 0)) bs)) (five_zeros (l +ℤ (l +ℤ pos 0)) ∙ ap (λ (z : ℤ). l +ℤ z) (+ℤ_idr l))

-- a pair that ends in 81 and then FF alone: the extension weight twice, for the rule looks at the byte before, not at a lead
pub after_81_ff : (t : Lent) (euc : Bool) (prev : LatinKorean) (word : ℕ) (held : Option ℤ) → step_of t (record { lead = 0; prev_byte = 0x81; prev_was_euc_range = euc; prev = prev; current_word_len = word; held = held }) 0xFF ≡ live (record { lead = 0; prev_byte = 0xFF; prev_was_euc_range = false; prev = Other; current_word_len = 0; held = None }) (t.scale.extension +ℤ t.scale.extension)
unfolding step_of decode_of first vars_of event_of error_of stray_of extension_of
after_81_ff t euc prev word held = refl

-- ---- states that no stream leads to, and what the rules' widths take in
hangul_outside : (w : Scale) (m : EucKr) (extras : List ℤ) (u b : ℕ) → m.prev_was_euc_range ≡ false → hangul_of w m extras u b ≡ outer_of w m
unfolding hangul_of
hangul_outside w m extras u b f = rw f

-- a lead (B0) whose range flag is false, then a byte (A1) that makes a Hangul with it: it scores as one outside the EUC range
pub flag_false : (t : Lent) (m : EucKr) (lead b : ℕ) → m.lead ≡ lead → m.prev_was_euc_range ≡ false → HangulPair t.index lead b → step_of t m b ≡ after_byte 0 b (outer_of t.scale m)
flag_false t m lead b z f pair =
    let u = get_or t.index (pointer_of lead b) 0 in
    sym (step_on t m b (decoded 0 (Point u)) (pair_decoded t lead b pair ∙ ap (λ (k : ℕ). decode_of t.index k b) (sym z)) (Point u) refl)
    ∙ ap (after_byte 0 b) (unit_hangul t.scale t.extras m u b pair.a_hangul ∙ hangul_outside t.scale m t.extras u b f)

unit_private : (w : Scale) (extras : List ℤ) (m : EucKr) (u b : ℕ) → between 0xE000 0xF8FF u ≡ true → unit_of w extras m u b ≡ other_of m w.other
unfolding unit_of
unit_private w extras m u b e =
    let h = range_true 0xE000 0xF8FF u e in
    rw (above 0x61 0x7A u (omega arith), above 0x41 0x5A u (omega arith), above 0xAC00 0xD7A3 u (omega arith), above 0x4E00 0xABFF u (omega arith), below 0xF900 0xFA0B u (omega arith), le-ltb u 0x80 (omega arith))

private_mapped : (u : ℕ) → between 0xE000 0xF8FF u ≡ true → is_mapped u ≡ true
private_mapped u e = let h = range_true 0xE000 0xF8FF u e in rw (above 0x80 0xD7FF u (omega arith), inside 0xE000 0xFFFF u (omega arith) (omega arith))

-- a pair that the index maps to private use scores as other; the private-use weight is for unmapped pairs
pub private_use : (t : Lent) (m : EucKr) (b : ℕ) → is_lead m.lead ≡ true → is_trail b ≡ true → between 0xE000 0xF8FF (get_or t.index (pointer_of m.lead b) 0) ≡ true → step_of t m b ≡ after_byte 0 b (other_of m t.scale.other)
private_use t m b l r e =
    let u = get_or t.index (pointer_of m.lead b) 0 in
    sym (step_on t m b (decoded 0 (Point u)) (pair_point t m.lead b l r (private_mapped u e)) (Point u) refl) ∙ ap (after_byte 0 b) (unit_private t.scale t.extras m u b e)
