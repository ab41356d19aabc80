-- The machine reads the first 8,836 entries of the index only: two indexes that have these alike give the same steps, runs and
-- answers, from any record that the kind can hold.
use Rattle.std.specs.Prelude.{◌≡◌, true, false, ℤ, pos, length, get_or}
use Rattle.std.proofs.Math.Path.{refl, ap}
use Rattle.std.proofs.Common.{◌∙◌, arith}
use Rattle.std.proofs.Math.Bool.{Bool, cond}
use mathlib.Core.List.{List, [], ◌∷◌}
use Prim.Native.Nat.{ℕ, ◌+◌, ◌≤◌, ◌<◌}
use Rattle.lengths.specs.Lengths.{jis_count}
use Rattle.laws.specs.declared.Reason.TheVariants.{BadByte}
use Rattle.laws.specs.Run.{Out, Outcome, none, live, alive, plus, with_byte, takes, run, ends_at, WhenLive, when_more, when_plus}
use Rattle.octets.specs.Octets.{between}
use Rattle.octets.specs.BetweenLaws.{between_high}
use Rattle.iso2022jp.specs.declared.DecoderState.{DecoderState}
use Rattle.iso2022jp.specs.declared.DecoderState.TheVariants.{Ascii, Roman, Katakana, LeadByte, TrailByte, EscapeStart, Escape}
use Rattle.iso2022jp.specs.declared.Iso2022Jp.{Iso2022Jp}
use Rattle.entries.specs.Ready.{ready_b}
use Rattle.iso2022jp.specs.Iso2022Jp.{holds, LeadIn, Sound, indexed_by, pair_at, first_count, trail_of, step_in, step_of, ran_of}
use Rattle.iso2022jp.specs.Iso2022JpLaws.{step_keeps}

-- ---- two steps that agree on the records of which P holds, which the first keeps, agree in a run
module _ {D S : Type 0} (step other : S → ℕ → Out D S) (P : S → Type 0) (keeps : (m : S) (b : ℕ) → P m → WhenLive (λ n g. P n) (step m b)) (agree : (m : S) (b : ℕ) → P m → step m b ≡ other m b) where
  byte_agrees : (o : Out D S) (b : ℕ) → WhenLive (λ n g. P n) o → with_byte step o b ≡ with_byte other o b
  unfolding with_byte
  byte_agrees (none d) b h = refl
  byte_agrees (live m s) b h = ap (plus s) (agree m b h)

  byte_keeps : (o : Out D S) (b : ℕ) → WhenLive (λ n g. P n) o → WhenLive (λ n g. P n) (with_byte step o b)
  unfolding with_byte
  byte_keeps (none d) b h = tt
  byte_keeps (live m s) b h = when_plus (λ n g. P n) s (step m b) (keeps m b h)

  runs_agree : (o : Out D S) (xs : List ℕ) → WhenLive (λ n g. P n) o → run step o xs ≡ run other o xs
  unfolding run
  runs_agree o [] h = refl
  runs_agree o (x ∷ xs) h = runs_agree (with_byte step o x) xs (byte_keeps o x h) ∙ ap (λ (p : Out D S). run other p xs) (byte_agrees o x h)

  ends_agree : (o : Out D S) (xs : List ℕ) → WhenLive (λ n g. P n) o → ends_at step o xs ≡ ends_at other o xs
  unfolding ends_at
  ends_agree o [] h = refl
  ends_agree o (x ∷ xs) h =
      ap (λ (k : ℕ). takes o + k) (ends_agree (with_byte step o x) xs (byte_keeps o x h) ∙ ap (λ (p : Out D S). ends_at other p xs) (byte_agrees o x h))

-- ---- where a pair stands
pub pair_first : (lead b : ℕ) → lead ≤ 0x7E → b ≤ 0x7E → pair_at lead b < first_count
pair_first lead b l t = omega arith

-- the entries that a pair can stand at are alike
abbrev pub SameFirst : List ℕ → List ℕ → Type 0
SameFirst index other = (at : ℕ) → at < first_count → get_or index at 0 ≡ get_or other at 0

module _ (index other : List ℕ) (same : SameFirst index other) where
  trail_same : (m : Iso2022Jp) (b : ℕ) → m.lead ≤ 0x7E → trail_of index m b ≡ trail_of other m b
  unfolding trail_of
  trail_same m b l = at (between 0x21 0x7E b) refl
    where
      trailed : List ℕ → Bool → Outcome Iso2022Jp
      trailed entries t = cond t (cond (indexed_by entries (pair_at m.lead b)) (alive (holds LeadByte m.out 0 m.output)) (none BadByte)) (none BadByte)

      at : (t : Bool) → between 0x21 0x7E b ≡ t → trailed index t ≡ trailed other t
      at true e = let q = same (pair_at m.lead b) (pair_first m.lead b l (between_high 0x21 0x7E b e)) in rw q
      at false e = refl

  in_same : (state : DecoderState) (m : Iso2022Jp) (b : ℕ) → LeadIn state m.lead → step_in index state m b ≡ step_in other state m b
  unfolding step_in
  in_same Ascii m b h = refl
  in_same Roman m b h = refl
  in_same Katakana m b h = refl
  in_same LeadByte m b h = refl
  in_same TrailByte m b h = trail_same m b h.1
  in_same EscapeStart m b h = refl
  in_same Escape m b h = refl

  pub step_same : (m : Iso2022Jp) (b : ℕ) → Sound m → step_of index m b ≡ step_of other m b
  step_same m b h = in_same m.state m b h

  step_sound : (m : Iso2022Jp) (b : ℕ) → Sound m → WhenLive (λ n g. Sound n) (step_of index m b)
  step_sound m b h = when_more (λ n g p. p.0) (step_of index m b) (step_keeps index m b h)

  pub run_same : (m : Iso2022Jp) (s : ℤ) (xs : List ℕ) → Sound m → run (step_of index) (live m s) xs ≡ run (step_of other) (live m s) xs
  run_same m s xs h = runs_agree (step_of index) (step_of other) Sound step_sound step_same (live m s) xs h

  pub ends_same : (m : Iso2022Jp) (s : ℤ) (xs : List ℕ) → Sound m → ends_at (step_of index) (live m s) xs ≡ ends_at (step_of other) (live m s) xs
  ends_same m s xs h = ends_agree (step_of index) (step_of other) Sound step_sound step_same (live m s) xs h

  -- what the call answers, over indexes of the right length
  pub ran_same : (m : Iso2022Jp) (xs : List ℕ) → Sound m → length index ≡ jis_count → length other ≡ jis_count → ran_of index m xs ≡ ran_of other m xs
  unfolding ran_of ready_b
  ran_same m xs h l k = rw (l, k, run_same m (pos 0) xs h, ends_same m (pos 0) xs h)
