-- The edge table: document 01's proved lines, in its order and words, over what a feed gives and leaves.
use Rattle.std.specs.Prelude.{◌≡◌, Bool, true, false, List, [], ◌∷◌, ℕ, ◌^◌, ℤ, pos, ◌+ℤ◌, get_or, set, Ok}
use Rattle.laws.specs.declared.Reason.TheVariants.{BadByte, BadSecondByte, BrokenEscape}
use Rattle.weights.specs.Weights.{index_of, weight_of, big5_pua, big5_extension, long_word}
use Rattle.context.specs.Context.{bytes_of}
use Rattle.iso2022jp.specs.Iso2022Jp as iso2022jp
use Rattle.utf8.specs.Utf8 as utf-8
use Rattle.big5_decoder.specs.Standard.{is_mapped, pointer_of}
use Rattle.big5.specs.Edges.{rest}
use Rattle.big5.specs.Scoring as big5
use Rattle.big5.specs.declared.LatinCj.TheVariants.{Cj, Other}
use Rattle.euckr.specs.Edges.{Word}
use Rattle.euckr.specs.declared.EucKr.{EucKr as EucKrRecord}
use Rattle.tables.specs.Tables.{Tables}
use Rattle.kinds.specs.declared.machine.Machine.TheVariants.{Utf8, Iso2022Jp, EucKr, Big5}
use Rattle.places.specs.Place.{place}
use Rattle.places.specs.Slate.{taken_of, feed_all}
use Rattle.places.specs.declared.place.Place.{Place}
use Rattle.detector.specs.Feed.{feed_of}
use Rattle.detector.specs.Front.{some, reaches_of}
use Rattle.state.specs.State.{start_of}
use Rattle.state.specs.declared.State.{State}
use Rattle.places.specs.Score.{no_score}

-- the state after a chunk that is not the last
abbrev pub state_after : Tables → State → List ℕ → State
state_after t s xs = (feed_of t s xs false).state

-- of a chunk, `part` is fed, after `before`, which was saved: the front says so, and every place gets it; with the chunk, `body`
-- bytes have come from the end of the head on
pub record FedAs (t : Tables) (s : State) (xs before part : List ℕ) (body : ℕ) : Type 0 where
  pub reach : reaches_of s.front xs ≡ some before part
  pub bodied : (last : Bool) → (feed_of t s xs last).state.front.body ≡ body
  pub fed : (last : Bool) → (feed_of t s xs last).state.places ≡ feed_all t last body part (feed_all t false 0 before s.places)

-- a first chunk leaves p in place k, if place k takes part
abbrev pub Leaves : Tables → ℕ → ℕ → List ℕ → Place → Type 0
Leaves t bits k xs p = taken_of bits (2 ^ k) ≡ Ok (pos 0) → (d : Place) → get_or (state_after t (start_of bits) xs).places k d ≡ p

-- ---- words of Hangul
-- the same tables with a long-word weight of 0
abbrev pub without_long : Tables → Tables
without_long t =
    record {
      caseless = t.caseless;
      logical = t.logical;
      visual = t.visual;
      arabic_french = t.arabic_french;
      big5 = t.big5;
      euckr = t.euckr;
      jis = t.jis;
      extras = t.extras;
      weights = set t.weights (index_of long_word) (pos 0);
    }

-- the bytes leave place 2 live, with a score larger by k than with a long-word weight of 0, and else the same
pub record Adds (t : Tables) (bits : ℕ) (xs : List ℕ) (k : ℤ) : Type 0 where
  pub machine : EucKrRecord
  pub score : ℤ
  pub without : Leaves (without_long t) bits 2 xs (place (EucKr machine) (Ok score))
  pub with : Leaves t bits 2 xs (place (EucKr machine) (Ok (score +ℤ k)))

-- ---- the table
pub record EdgeTable (t : Tables) (bits : ℕ) : Type 0 where
  -- no bytes: non-ASCII count 0
  pub no_bytes : (last : Bool) → (feed_of t (start_of bits) [] last).state.front.non_ascii_seen ≡ 0
  -- saved 61, 62, 63 in single chunks: context 62 63
  pub saved_singly : bytes_of (state_after t (state_after t (state_after t (start_of bits) (0x61 ∷ [])) (0x62 ∷ [])) (0x63 ∷ [])).front.context ≡ 0x62 ∷ 0x63 ∷ []
  -- 61 62 63 E9: fed from offset 1
  pub from_1 : FedAs t (start_of bits) (0x61 ∷ 0x62 ∷ 0x63 ∷ 0xE9 ∷ []) [] (0x62 ∷ 0x63 ∷ 0xE9 ∷ []) 1
  -- saved 62 63, then 61 E9: fed 62 63, then 61 E9
  pub saved_then : FedAs t (state_after t (start_of bits) (0x62 ∷ 0x63 ∷ [])) (0x61 ∷ 0xE9 ∷ []) (0x62 ∷ 0x63 ∷ []) (0x61 ∷ 0xE9 ∷ []) 1
  -- 61 62 63 64 1B: fed from offset 2, escape flag set
  pub from_2 : FedAs t (start_of bits) (0x61 ∷ 0x62 ∷ 0x63 ∷ 0x64 ∷ 0x1B ∷ []) [] (0x63 ∷ 0x64 ∷ 0x1B ∷ []) 1
  pub escape_flag : (last : Bool) → (feed_of t (start_of bits) (0x61 ∷ 0x62 ∷ 0x63 ∷ 0x64 ∷ 0x1B ∷ []) last).state.front.esc_seen ≡ true
  -- UTF-8 ED 9F BF lives; ED A0 80 is none, by a bad byte, the second
  pub utf_8_ed_9f_bf : Leaves t bits 0 (0xED ∷ 0x9F ∷ 0xBF ∷ []) (place (Utf8 utf-8.fresh) (Ok (pos 0)))
  pub utf_8_ed_a0_80 : Leaves t bits 0 (0xED ∷ 0xA0 ∷ 0x80 ∷ []) (place (Utf8 utf-8.fresh) (no_score BadByte 2))
  -- UTF-8 F4 8F BF BF lives; F4 90 80 80 and C0 80 are none, by a bad byte, the second and the first
  pub utf_8_f4_8f_bf_bf : Leaves t bits 0 (0xF4 ∷ 0x8F ∷ 0xBF ∷ 0xBF ∷ []) (place (Utf8 utf-8.fresh) (Ok (pos 0)))
  pub utf_8_f4_90_80_80 : Leaves t bits 0 (0xF4 ∷ 0x90 ∷ 0x80 ∷ 0x80 ∷ []) (place (Utf8 utf-8.fresh) (no_score BadByte 2))
  pub utf_8_c0_80 : Leaves t bits 0 (0xC0 ∷ 0x80 ∷ []) (place (Utf8 utf-8.fresh) (no_score BadByte 1))
  -- ISO-2022-JP 1B 28 42 1B 28 42: none, by a broken escape, at its last byte
  pub iso2022jp_escapes : Leaves t bits 1 (0x1B ∷ 0x28 ∷ 0x42 ∷ 0x1B ∷ 0x28 ∷ 0x42 ∷ []) (place (Iso2022Jp iso2022jp.fresh) (no_score BrokenEscape 6))
  -- Big5 FD FF: extension weight twice, then Other
  pub big5_fd_ff : Leaves t bits 3 (0xFD ∷ 0xFF ∷ []) (place (Big5 (rest Other 0xFF)) (Ok (weight_of t.weights big5_extension +ℤ weight_of t.weights big5_extension)))
  -- Big5 FD 61, unmapped: PUA weight once
  pub big5_fd_61 : is_mapped (get_or t.big5 (pointer_of 0xFD 0x61) 0) ≡ false → Leaves t bits 3 (0xFD ∷ 0x61 ∷ []) (place (Big5 (rest Cj 0x61)) (Ok (weight_of t.weights big5_pua)))
  -- Big5 A4 FF: none, by a bad second byte; lone 80: none, by a bad byte
  pub big5_a4_ff : Leaves t bits 3 (0xA4 ∷ 0xFF ∷ []) (place (Big5 big5.fresh) (no_score BadSecondByte 2))
  pub big5_lone_80 : Leaves t bits 3 (0x80 ∷ []) (place (Big5 big5.fresh) (no_score BadByte 1))
  -- EUC-KR: long-word weight absent at five Hangul, once at six, twice at seven
  pub euckr_five : (xs : List ℕ) → Word t.euckr 5 xs → Adds t bits xs (pos 0)
  pub euckr_six : (xs : List ℕ) → Word t.euckr 6 xs → Adds t bits xs (weight_of t.weights long_word)
  pub euckr_seven : (xs : List ℕ) → Word t.euckr 7 xs → Adds t bits xs (weight_of t.weights long_word +ℤ weight_of t.weights long_word)
