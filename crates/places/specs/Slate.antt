-- All nine places: what a start gives, and what a part of a chunk makes of them.
use Rattle.std.specs.Prelude.{ℕ, suc, ◌/◌, ◌%◌, Bool, cond, List, [], ◌∷◌, pos, ◌==◌, slice_index_or, Ok}
use Rattle.laws.specs.declared.Reason.TheVariants.{NotInSlate}
use Rattle.big5.specs.Scoring as big5
use Rattle.euckr.specs.Scoring as euckr
use Rattle.iso2022jp.specs.Iso2022Jp as iso2022jp
use Rattle.arabic_french.specs.ArabicFrench as arabic_french
use Rattle.caseless_script.specs.Caseless as caseless
use Rattle.logical.specs.Logical as logical
use Rattle.visual.specs.Visual as visual
use Rattle.shift_jis.specs.ShiftJis as shiftJis
use Rattle.utf8.specs.Utf8 as utf-8
use Rattle.tables.specs.Own.{own_of}
use Rattle.tables.specs.Tables.{Tables}
use Rattle.kinds.specs.declared.machine.Machine.TheVariants.{Utf8, Iso2022Jp, EucKr, Big5, Caseless, Logical, Visual, ArabicFrench, ShiftJis}
use Rattle.places.specs.Place.{place, feed_of}
use Rattle.places.specs.declared.place.Place.{Place}
use Rattle.places.specs.Score.{Score, no_score}

-- ---- one of them
-- the place of a number; where there is none, one without a score
abbrev pub nowhere : Place
nowhere = place (Utf8 utf-8.fresh) (no_score NotInSlate 0)

abbrev pub place_at : ℕ → List Place → Place
place_at k ps = slice_index_or ps k nowhere

-- ---- a start
-- a place takes part where the bit that is worth `unit` is set; its score starts at 0
abbrev pub taken_of : ℕ → ℕ → Score
taken_of bits unit = cond (bits / unit % 2 == 1) (Ok (pos 0)) (no_score NotInSlate 0)

-- fresh machines, each in its place
unfoldable pub start_of : ℕ → List Place
start_of bits =
    place (Utf8 utf-8.fresh) (taken_of bits 1) ∷ place (Iso2022Jp iso2022jp.fresh) (taken_of bits 2) ∷ place (EucKr euckr.fresh) (taken_of bits 4) ∷ place (Big5 big5.fresh) (taken_of bits 8) ∷ place (Caseless caseless.fresh) (taken_of bits 16) ∷ place (Logical logical.fresh) (taken_of bits 32) ∷ place (Visual visual.fresh) (taken_of bits 64) ∷ place (ArabicFrench arabic_french.fresh) (taken_of bits 128) ∷ place (ShiftJis shiftJis.fresh) (taken_of bits 256) ∷ []

-- ---- a part of a chunk
-- each place over its own tables, the first one's number being k
unfoldable pub feed_from : Tables → Bool → ℕ → List ℕ → ℕ → List Place → List Place
feed_from t last body xs k [] = []
feed_from t last body xs k (p ∷ ps) = feed_of (own_of t k) last body xs p ∷ feed_from t last body xs (suc k) ps

abbrev pub feed_all : Tables → Bool → ℕ → List ℕ → List Place → List Place
feed_all t last body xs ps = feed_from t last body xs 0 ps
