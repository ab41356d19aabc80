-- What EUC-KR forgets.
use Rattle.std.specs.Prelude.{◌≡◌, refl, Bool, cond, List, ℕ, ◌<◌, ℤ, pos, None}
use Rattle.std.proofs.Math.Path.{sym}
use Rattle.std.proofs.Common.{ap, ◌∙◌, arith}
use Rattle.std.proofs.Math.Bool.{true, false}
use borrow.Author.Tests.{lt-ltb, ltb-true}
use Rattle.laws.specs.Memory.{Forgets, Quiet}
use Rattle.laws.proofs.Forgets.{forgets}
use Rattle.laws.specs.Run.{live}
use Rattle.octets.specs.Octets.{ascii, letter}
use Rattle.pairs.specs.Pairs.{decoded}
use Rattle.pairs.specs.Ranges.{below}
use Rattle.pairs.specs.SequencesLaws.{first_ascii}
use Rattle.pairs.specs.declared.Event.TheVariants.{Point}
use Rattle.euckr_decoder.specs.Standard.{decode_of}
use Rattle.euckr.specs.Scoring.{is_euc, is_hangul, is_hanja, letter_after, letter_of, scored, unit_of, after_byte, fresh, Lent, step_of}
use Rattle.euckr.specs.Ways.{step_on}
use Rattle.euckr.specs.declared.EucKr.{EucKr}
use Rattle.euckr.specs.declared.LatinKorean.{LatinKorean}
use Rattle.euckr.specs.declared.LatinKorean.TheVariants.{AsciiLetter, Other}
use Rattle.euckr.specs.declared.Scale.{Scale}

abbrev pub ascii_kind : Bool → LatinKorean
ascii_kind isLetter = cond isLetter AsciiLetter Other

-- of ASCII bytes the record holds the last one
abbrev pub holding : ℕ → EucKr
holding b = record { lead = 0; prev_byte = b; prev_was_euc_range = is_euc b; prev = ascii_kind (letter b); current_word_len = 0; held = None }

no_hangul : (u : ℕ) → u < 0x80 → is_hangul u ≡ false
no_hangul u h = below 0xAC00 0xD7A3 u (omega arith)

no_hanja : (u : ℕ) → u < 0x80 → is_hanja u ≡ false
no_hanja u h = rw (below 0x4E00 0xABFF u (omega arith), below 0xF900 0xFA0B u (omega arith))

module _ (w : Scale) where
  none_beside : (t : Bool) → letter_after w (ascii_kind t) ≡ pos 0
  none_beside true = refl
  none_beside false = refl

  unit_ascii : (extras : List ℤ) (k b : ℕ) (t : Bool) → b < 0x80 → letter b ≡ t → unit_of w extras (holding k) b b ≡ scored (ascii_kind t) 0 None (pos 0)
  unfolding unit_of letter_of
  unit_ascii extras k b true h e = rw (e, none_beside (letter k))
  unit_ascii extras k b false h e = rw (e, no_hangul b h, no_hanja b h, lt-ltb b 0x80 h)

module _ (t : Lent) where
  decode_ascii : (b : ℕ) → ascii b ≡ true → decoded 0 (Point b) ≡ decode_of t.index 0 b
  unfolding decode_of
  decode_ascii b e = sym (first_ascii b e)

  step_ascii : (k b : ℕ) → ascii b ≡ true → step_of t (holding k) b ≡ live (holding b) (pos 0)
  step_ascii k b e =
      sym (step_on t (holding k) b (decoded 0 (Point b)) (decode_ascii b e) (Point b) refl) ∙ ap (after_byte 0 b) (unit_ascii t.scale t.extras k b (letter b) (ltb-true b 0x80 e) refl)

  pub euckr_quiet : Quiet ascii (step_of t) holding (λ k b. b)
  euckr_quiet = record { steps = step_ascii; forgotten = λ k l a b. refl }

  pub euckr_forgets : Forgets ascii (step_of t) fresh
  euckr_forgets = forgets euckr_quiet 0
