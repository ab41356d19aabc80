-- What Big5 forgets.
use Rattle.std.specs.Prelude.{◌≡◌, refl, Bool, cond, ℕ, ◌<◌, pos, None}
use Rattle.std.proofs.Math.Path.{sym}
use Rattle.std.proofs.Common.{ap, ◌∙◌, arith}
use Rattle.std.proofs.Math.Bool.{true, false}
use borrow.Author.Tests.{lt-ltb, ltb-true, ne_eqb}
use Rattle.laws.specs.Lists.{any}
use Rattle.laws.specs.Memory.{Forgets, Quiet}
use Rattle.laws.proofs.Forgets.{forgets}
use Rattle.laws.specs.Run.{live}
use Rattle.octets.specs.Octets.{ascii, letter}
use Rattle.pairs.specs.Pairs.{decoded}
use Rattle.pairs.specs.Ranges.{below}
use Rattle.pairs.specs.SequencesLaws.{first_ascii}
use Rattle.pairs.specs.declared.Event.TheVariants.{Point}
use Rattle.big5_decoder.specs.Standard.{decode_of}
use Rattle.big5.specs.Scoring.{is_hanzi, is_distinct, beside_hanzi, letter_of, scored, unit_of, point_of, after_byte, fresh, Lent, step_of}
use Rattle.big5.specs.Ways.{step_on}
use Rattle.big5.specs.declared.Big5.{Big5}
use Rattle.big5.specs.declared.LatinCj.{LatinCj}
use Rattle.big5.specs.declared.LatinCj.TheVariants.{AsciiLetter, Other}
use Rattle.big5.specs.declared.Scale.{Scale}

abbrev pub ascii_kind : Bool → LatinCj
ascii_kind isLetter = cond isLetter AsciiLetter Other

-- of ASCII bytes the record holds the last one
abbrev pub holding : ℕ → Big5
holding b = record { lead = 0; prev = ascii_kind (letter b); prev_byte = b; held = None }

no_hanzi : (u : ℕ) → u < 0x80 → is_hanzi u ≡ false
no_hanzi u h = rw (below 0x3400 0x9FFF u (omega arith), below 0xF900 0xFAFF u (omega arith))

no_distinct : (u : ℕ) → u < 0x80 → is_distinct u ≡ false
unfolding any
no_distinct u h = rw (ne_eqb u 0x3000 (λ e. omega arith), ne_eqb u 0x3001 (λ e. omega arith), ne_eqb u 0x3002 (λ e. omega arith), ne_eqb u 0xFF08 (λ e. omega arith), ne_eqb u 0xFF09 (λ e. omega arith), ne_eqb u 0xFF01 (λ e. omega arith), ne_eqb u 0xFF0C (λ e. omega arith), ne_eqb u 0xFF1B (λ e. omega arith), ne_eqb u 0xFF1F (λ e. omega arith))

module _ (w : Scale) where
  none_beside : (t : Bool) → beside_hanzi w (ascii_kind t) ≡ pos 0
  none_beside true = refl
  none_beside false = refl

  unit_ascii : (k b : ℕ) (t : Bool) → b < 0x80 → letter b ≡ t → unit_of w (holding k) b ≡ scored (ascii_kind t) None (pos 0)
  unfolding unit_of letter_of
  unit_ascii k b true h e = rw (e, none_beside (letter k))
  unit_ascii k b false h e = rw (e, no_hanzi b h, no_distinct b h, lt-ltb b 0x80 h)

  point_ascii : (k b : ℕ) → b < 0x80 → point_of w (holding k) b ≡ scored (ascii_kind (letter b)) None (pos 0)
  unfolding point_of
  point_ascii k b h = rw (lt-ltb b 0x10000 (omega arith)) (unit_ascii k b (letter b) h refl)

module _ (t : Lent) where
  decode_ascii : (b : ℕ) → ascii b ≡ true → decoded 0 (Point b) ≡ decode_of t.index 0 b
  unfolding decode_of
  decode_ascii b e = sym (first_ascii b e)

  step_ascii : (k b : ℕ) → ascii b ≡ true → step_of t (holding k) b ≡ live (holding b) (pos 0)
  step_ascii k b e =
      sym (step_on t (holding k) b (decoded 0 (Point b)) (decode_ascii b e) (Point b) refl) ∙ ap (after_byte 0 b) (point_ascii t.scale k b (ltb-true b 0x80 e))

  pub big5_quiet : Quiet ascii (step_of t) holding (λ k b. b)
  big5_quiet = record { steps = step_ascii; forgotten = λ k l a b. refl }

  pub big5_forgets : Forgets ascii (step_of t) fresh
  big5_forgets = forgets big5_quiet 0
