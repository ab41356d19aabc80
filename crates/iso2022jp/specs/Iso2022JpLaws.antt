-- What holds of the ISO-2022-JP machine's definitions, and each way through the code.
use Rattle.std.specs.Prelude.{◌≡◌, Bool, not, ◌||◌, List, [], ◌∷◌, ◌⊎◌, ℕ, ◌≤◌, eqb, ℤ, pos, Option, Some, None}
use Rattle.std.proofs.Math.Path.{refl, sym}
use Rattle.std.proofs.Common.{ap, subst, ◌∙◌, arith}
use Rattle.std.proofs.Math.Bool.{true, false}
use Rattle.std.proofs.Math.Logic.{inl, inr}
use Rattle.std.proofs.Math.Dec.{ltb}
use borrow.Author.Tests.{eq-eqb, ne_eqb, eqb-true, ltb-true, ltb-false, not-true}
use Rattle.laws.specs.Lists.{any, is_in}
use Rattle.lengths.specs.Lengths.{jis_count}
use Rattle.laws.specs.Answer.{reached, if_fit}
use Rattle.laws.specs.declared.Reason.{Reason}
use Rattle.laws.specs.declared.Reason.TheVariants.{BadByte, BrokenEscape, CutAtClose}
use Rattle.laws.specs.Run.{Outcome, none, live, run, last_at, alive}
use Rattle.laws.specs.Still.{Ends, run_ends}
use Rattle.laws.specs.Tests.{both, neither, either}
use Rattle.octets.specs.Octets.{between}
use Rattle.octets.specs.BetweenLaws.{inside, above, between_low, between_high}
use Rattle.iso2022jp.specs.declared.DecoderState.{DecoderState}
use Rattle.iso2022jp.specs.declared.DecoderState.TheVariants.{Ascii, Roman, Katakana, LeadByte, TrailByte, EscapeStart, Escape}
use Rattle.iso2022jp.specs.declared.OutputState.{OutputState}
use Rattle.iso2022jp.specs.declared.OutputState.TheVariants.{Ascii as OutAscii, Roman as OutRoman, Katakana as OutKatakana, LeadByte as OutLeadByte}
use Rattle.iso2022jp.specs.declared.Iso2022Jp.{Iso2022Jp}
use Rattle.entries.specs.Ready.{true_ready}
use Rattle.iso2022jp.specs.Iso2022Jp.{Passes, holds, fresh, LeadIn, Sound, leads_escape, lead_in_b, sound_b, indexed_by, escape_byte, put_out, is_text, ascii_of, ranged_of, pair_at, trail_of, escape_start_of, designated, state_of, escaped_to, step_in, step_of, close_in, close_of, Ready, ran_of, closed_of}

-- ---- a byte in ASCII and Roman
module _ (b : ℕ) where
  text_non_ascii : 0x80 ≤ b → is_text b ≡ false
  unfolding is_text
  text_non_ascii h = rw (above 0x00 0x7F b h)

  pub text_rest : (b ≡ escape_byte → ⊥) → (b ≡ 0x0E → ⊥) → (b ≡ 0x0F → ⊥) → ltb b 0x80 ≡ is_text b
  unfolding is_text any
  text_rest e f g = at (ltb b 0x80) refl
    where
      at : (t : Bool) → ltb b 0x80 ≡ t → t ≡ is_text b
      at true q =
          let h = ltb-true b 0x80 q in
          rw (inside 0x00 0x7F b (omega arith) (omega arith), ne_eqb _ _ f, ne_eqb _ _ g, ne_eqb _ _ e)
      at false q = sym (text_non_ascii (ltb-false b 0x80 q))

  -- text is no escape
  text_escape : is_text b ≡ true → eqb b escape_byte ≡ false
  unfolding is_text any
  text_escape e =
      let q = not-true (is_in (0x0E ∷ 0x0F ∷ escape_byte ∷ []) b) (both (between 0x00 0x7F b) (not (is_in (0x0E ∷ 0x0F ∷ escape_byte ∷ []) b)) e).1 in
      let r = neither (eqb b 0x0E) _ q in
      let t = neither (eqb b 0x0F) _ r.1 in
      (neither (eqb b escape_byte) false t.1).0

passes_at : (out : OutputState) (b : ℕ) → is_text b ≡ true → Passes (holds Ascii out 0 false) b
unfolding Passes step_in ascii_of
passes_at out b t index = rw (text_escape b t, t)

-- text of plain ASCII leaves the record as it is
pub text_passes : (m : Iso2022Jp) (b : ℕ) → Sound m → m.state ≡ Ascii → m.output ≡ false → is_text b ≡ true → Passes m b
text_passes m b h e o t =
    let l : m.lead ≡ 0 = subst (λ (st : DecoderState). LeadIn st m.lead) e h in
    let r : holds Ascii m.out 0 false ≡ m = ap (λ (st : DecoderState). holds st m.out 0 false) (sym e) ∙ (ap (λ (n : ℕ). holds m.state m.out n false) (sym l) ∙ ap (holds m.state m.out m.lead) (sym o)) in
    subst (λ (n : Iso2022Jp). Passes n b) r (passes_at m.out b t)

-- ---- an escape to lead byte
pub lead_byte_designated : (lead b : ℕ) → lead ≡ 0x24 → (b ≡ 0x40) ⊎ (b ≡ 0x42) → Some OutLeadByte ≡ designated lead b
unfolding designated
lead_byte_designated lead b l (inl e) = rw (l, e)
lead_byte_designated lead b l (inr e) = rw (l, e)

-- ---- what the kind can hold: the test decides it, both ways
true_lead : (state : DecoderState) (lead : ℕ) → LeadIn state lead → lead_in_b state lead ≡ true
unfolding lead_in_b
true_lead Ascii lead h = eq-eqb _ _ h
true_lead Roman lead h = eq-eqb _ _ h
true_lead Katakana lead h = eq-eqb _ _ h
true_lead LeadByte lead h = eq-eqb _ _ h
true_lead TrailByte lead h = inside 0x21 0x7E lead h.0 h.1
true_lead EscapeStart lead h = eq-eqb _ _ h
true_lead Escape lead (inl h) = rw (eq-eqb _ _ h)
true_lead Escape lead (inr h) = rw h

pub escape_lead : (b : ℕ) → leads_escape b ≡ true → (b ≡ 0x24) ⊎ (b ≡ 0x28)
escape_lead b h = at (eqb b 0x24) refl h
  where
    at : (t : Bool) → eqb b 0x24 ≡ t → (t || eqb b 0x28) ≡ true → (b ≡ 0x24) ⊎ (b ≡ 0x28)
    at true e f = inl (eqb-true _ _ e)
    at false e f = inr (eqb-true _ _ f)

lead_true : (state : DecoderState) (lead : ℕ) → lead_in_b state lead ≡ true → LeadIn state lead
unfolding lead_in_b
lead_true Ascii lead h = eqb-true _ _ h
lead_true Roman lead h = eqb-true _ _ h
lead_true Katakana lead h = eqb-true _ _ h
lead_true LeadByte lead h = eqb-true _ _ h
lead_true TrailByte lead h = (between_low _ _ _ h, between_high _ _ _ h)
lead_true EscapeStart lead h = eqb-true _ _ h
lead_true Escape lead h = escape_lead lead h

pub true_sound : (m : Iso2022Jp) → Sound m → sound_b m ≡ true
true_sound m h = true_lead m.state m.lead h

pub sound_true : (m : Iso2022Jp) → sound_b m ≡ true → Sound m
sound_true m h = lead_true m.state m.lead h

pub fresh_sound : Sound fresh
fresh_sound = refl

-- ---- a step keeps it, and changes no score
abbrev Kept : Outcome Iso2022Jp → Type 0
Kept o = Ends Sound (pos 0) o

module _ (m : Iso2022Jp) (b : ℕ) where
  ascii_keeps : (state : DecoderState) → LeadIn state 0 → Kept (ascii_of state m b)
  unfolding ascii_of
  ascii_keeps state h = either Kept (eqb b escape_byte) (λ e. (refl, refl)) (λ e. either Kept (is_text b) (λ e. (h, refl)) (λ e. tt))

  ranged_keeps : (next : Iso2022Jp) (high : ℕ) → (between 0x21 high b ≡ true → Sound next) → Kept (ranged_of m next high b)
  unfolding ranged_of
  ranged_keeps next high h = either Kept (eqb b escape_byte) (λ e. (refl, refl)) (λ e. either Kept (between 0x21 high b) (λ e. (h e, refl)) (λ e. tt))

  trail_keeps : (index : List ℕ) → Kept (trail_of index m b)
  unfolding trail_of
  trail_keeps index = either Kept (between 0x21 0x7E b) (λ e. either Kept (indexed_by index (pair_at m.lead b)) (λ e. (refl, refl)) (λ e. tt)) (λ e. tt)

  start_keeps : Kept (escape_start_of m b)
  unfolding escape_start_of
  start_keeps = either Kept (leads_escape b) (λ e. (escape_lead b e, refl)) (λ e. tt)

state_lead : (o : OutputState) → LeadIn (state_of o) 0
unfolding state_of
state_lead OutAscii = refl
state_lead OutRoman = refl
state_lead OutKatakana = refl
state_lead OutLeadByte = refl

escaped_keeps : (output : Bool) (t : Option OutputState) → Kept (escaped_to output t)
unfolding escaped_to
escaped_keeps output None = tt
escaped_keeps output (Some o) = either Kept output (λ e. tt) (λ e. (state_lead o, refl))

in_keeps : (index : List ℕ) (state : DecoderState) (m : Iso2022Jp) (b : ℕ) → Kept (step_in index state m b)
unfolding step_in
in_keeps index Ascii m b = ascii_keeps m b Ascii refl
in_keeps index Roman m b = ascii_keeps m b Roman refl
in_keeps index Katakana m b = ranged_keeps m b (put_out Katakana m) 0x5F (λ e. refl)
in_keeps index LeadByte m b = ranged_keeps m b (holds TrailByte m.out b false) 0x7E (λ e. (between_low 0x21 0x7E b e, between_high 0x21 0x7E b e))
in_keeps index TrailByte m b = trail_keeps m b index
in_keeps index EscapeStart m b = start_keeps m b
in_keeps index Escape m b = escaped_keeps m.output (designated m.lead b)

pub step_keeps : (index : List ℕ) (m : Iso2022Jp) (b : ℕ) → Sound m → Ends Sound (pos 0) (step_of index m b)
step_keeps index m b h = in_keeps index m.state m b

pub step_live : (index : List ℕ) (m n : Iso2022Jp) (b : ℕ) (s : ℤ) → step_of index m b ≡ live n s → Sound n × (s ≡ pos 0)
step_live index m n b s e = rw e at (in_keeps index m.state m b)

module _ (index : List ℕ) where
  -- A stretch keeps what the kind can hold, and ends with the score that it began with, or none.
  pub run_keeps : (m : Iso2022Jp) (s : ℤ) (xs : List ℕ) → Sound m → Ends Sound s (run (step_of index) (live m s) xs)
  run_keeps m s xs h = run_ends (step_of index) Sound (step_keeps index) s (live m s) xs (h, refl)

-- ---- why a byte drops it out: a bad byte or a broken escape
abbrev ByteReason : Reason → Type 0
ByteReason d = (d ≡ BadByte) ⊎ (d ≡ BrokenEscape)

abbrev Explained : Outcome Iso2022Jp → Type 0
Explained (none d) = ByteReason d
Explained (live m s) = Unit {0}

module _ (m : Iso2022Jp) (b : ℕ) where
  ascii_explained : (state : DecoderState) → Explained (ascii_of state m b)
  unfolding ascii_of
  ascii_explained state = either Explained (eqb b escape_byte) (λ e. tt) (λ e. either Explained (is_text b) (λ e. tt) (λ e. inl refl))

  ranged_explained : (next : Iso2022Jp) (high : ℕ) → Explained (ranged_of m next high b)
  unfolding ranged_of
  ranged_explained next high = either Explained (eqb b escape_byte) (λ e. tt) (λ e. either Explained (between 0x21 high b) (λ e. tt) (λ e. inl refl))

  trail_explained : (index : List ℕ) → Explained (trail_of index m b)
  unfolding trail_of
  trail_explained index = either Explained (between 0x21 0x7E b) (λ e. either Explained (indexed_by index (pair_at m.lead b)) (λ e. tt) (λ e. inl refl)) (λ e. inl refl)

  start_explained : Explained (escape_start_of m b)
  unfolding escape_start_of
  start_explained = either Explained (leads_escape b) (λ e. tt) (λ e. inr refl)

escaped_explained : (output : Bool) (t : Option OutputState) → Explained (escaped_to output t)
unfolding escaped_to
escaped_explained output None = inr refl
escaped_explained output (Some o) = either Explained output (λ e. inr refl) (λ e. tt)

in_explained : (index : List ℕ) (state : DecoderState) (m : Iso2022Jp) (b : ℕ) → Explained (step_in index state m b)
unfolding step_in
in_explained index Ascii m b = ascii_explained m b Ascii
in_explained index Roman m b = ascii_explained m b Roman
in_explained index Katakana m b = ranged_explained m b (put_out Katakana m) 0x5F
in_explained index LeadByte m b = ranged_explained m b (holds TrailByte m.out b false) 0x7E
in_explained index TrailByte m b = trail_explained m b index
in_explained index EscapeStart m b = start_explained m b
in_explained index Escape m b = escaped_explained m.output (designated m.lead b)

pub step_reason : (index : List ℕ) (m : Iso2022Jp) (b : ℕ) (d : Reason) → step_of index m b ≡ none d → (d ≡ BadByte) ⊎ (d ≡ BrokenEscape)
step_reason index m b d e = rw e at (in_explained index m.state m b)

-- the end: something is cut
abbrev CutShort : Outcome Iso2022Jp → Type 0
CutShort (none d) = d ≡ CutAtClose
CutShort (live m s) = Unit {0}

close_cut : (state : DecoderState) (m : Iso2022Jp) → CutShort (close_in state m)
unfolding close_in
close_cut Ascii m = tt
close_cut Roman m = tt
close_cut Katakana m = tt
close_cut LeadByte m = tt
close_cut TrailByte m = refl
close_cut EscapeStart m = refl
close_cut Escape m = refl

pub close_reason : (m : Iso2022Jp) (d : Reason) → close_of m ≡ none d → d ≡ CutAtClose
close_reason m d e = rw e at (close_cut m.state m)

-- ---- what a call gives
module _ (index : List ℕ) (m : Iso2022Jp) (xs : List ℕ) where
  -- a caller that tested
  pub ran_ready : Ready index m xs → ran_of index m xs ≡ reached (last_at (step_of index) (alive m) xs) (run (step_of index) (alive m) xs)
  unfolding ran_of
  ran_ready r = if_fit _ _ (true_ready (sound_b m) jis_count index xs (true_sound m) r)

pub closed_ready : (m : Iso2022Jp) → Sound m → closed_of m ≡ reached 0 (close_of m)
unfolding closed_of
closed_ready m h = if_fit _ _ (true_sound m h)
