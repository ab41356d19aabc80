-- What the code makes of places that may hold anything: each place's machine is asked, and its answer settles the place. In a
-- state in order it is what `feed_all` says (FedLaws).
use Rattle.std.specs.Prelude.{◌≡◌, ℕ, suc, ◌+◌, ◌-◌, ◌*◌, ◌%◌, ◌^◌, Bool, true, false, cond, List, [], ◌∷◌, length, ℤ, slice_index_or, Ok, Err}
use Rattle.laws.specs.Answer.{Ran}
use Rattle.laws.specs.Each.{EachFrom}
use Rattle.laws.specs.declared.Reason.TheVariants.{NotInSlate}
use Rattle.laws.specs.declared.Stop.TheVariants as stop
use Rattle.signed.specs.Sum.{sum_of}
use Rattle.single.specs.Class.{space}
use Rattle.weights.specs.Weights.{per_byte}
use Rattle.big5.specs.Scoring as big5
use Rattle.euckr.specs.Scoring as euckr
use Rattle.iso2022jp.specs.Iso2022Jp as iso2022jp
use Rattle.arabic_french.specs.ArabicFrench as arabic_french
use Rattle.caseless_script.specs.Caseless as caseless
use Rattle.logical.specs.Logical as logical
use Rattle.visual.specs.Visual as visual
use Rattle.shift_jis.specs.ShiftJis as shiftJis
use Rattle.utf8.specs.Utf8 as utf-8
use Rattle.kinds.specs.Kinds.{is_single, fresh_of, ran_at, decoded_end, Bounded, Weighed}
use Rattle.tables.specs.Own.{Own, own_of}
use Rattle.tables.specs.Tables.{Tables}
use Rattle.kinds.specs.declared.machine.Machine.{Machine}
use Rattle.kinds.specs.declared.machine.Machine.TheVariants.{Utf8, Iso2022Jp, EucKr, Big5, Caseless, Logical, Visual, ArabicFrench, ShiftJis}
use Rattle.places.specs.Place.{place}
use Rattle.places.specs.declared.place.Place.{Place}
use Rattle.places.specs.Score.{Score, no_score}

-- ---- one place
-- the fresh machine of each place's kind
abbrev pub freshes : List Machine
freshes =
    Utf8 utf-8.fresh ∷ Iso2022Jp iso2022jp.fresh ∷ EucKr euckr.fresh ∷ Big5 big5.fresh ∷ Caseless caseless.fresh ∷ Logical logical.fresh ∷ Visual visual.fresh ∷ ArabicFrench arabic_french.fresh ∷ ShiftJis shiftJis.fresh ∷ []

abbrev pub fresh_at : ℕ → Machine
fresh_at k = slice_index_or freshes k (Utf8 utf-8.fresh)

-- the sum, in the 64 bits of a score; or none, and the fresh machine
unfoldable pub settled_of : Machine → ℤ → ℕ → ℕ → Ran Machine → Place
settled_of fresh s body bytes (Ok a) = place a.0 (Ok (sum_of s a.1))
settled_of fresh s body bytes (Err (stop.Dropped d at)) = place fresh (no_score d (body - (bytes - at - 1)))
settled_of fresh s body bytes (Err stop.Unfit) = place fresh (no_score NotInSlate 0)

-- without a score nothing is asked
unfoldable pub settled_from : Machine → ℕ → ℕ → Ran Machine → Score → Place
settled_from fresh body bytes r (Err why) = place fresh (Err why)
settled_from fresh body bytes r (Ok s) = settled_of fresh s body bytes r

-- a part of a chunk to place k
abbrev pub fed_as : ℕ → Own → ℕ → List ℕ → Place → Place
fed_as k t body xs p = settled_from (fresh_at k) body (length xs) (ran_at k t p.machine xs) p.score

-- the end of the stream to a decoder's place
abbrev pub decoder_ended : ℕ → Place → Place
decoder_ended body p = settled_from (fresh_of p.machine) body 0 (decoded_end p.machine) p.score

-- a byte more, in the 64 bits of a count
abbrev pub past : ℕ → ℕ
past body = (body + 1) % 2 ^ 64

-- to place k: to the single-byte machines it is a space
abbrev pub ended_as : ℕ → Own → ℕ → Place → Place
ended_as k t body p = cond (is_single k) (fed_as k t (past body) (space ∷ []) p) (decoder_ended body p)

-- ---- all places, each over its own tables, the first one's number being k
unfoldable pub fed_each_from : Tables → ℕ → List ℕ → ℕ → List Place → List Place
fed_each_from t body xs k [] = []
fed_each_from t body xs k (p ∷ ps) = fed_as k (own_of t k) body xs p ∷ fed_each_from t body xs (suc k) ps

abbrev pub fed_each : Tables → ℕ → List ℕ → List Place → List Place
fed_each t body xs ps = fed_each_from t body xs 0 ps

unfoldable pub ended_each_from : Tables → ℕ → ℕ → List Place → List Place
ended_each_from t body k [] = []
ended_each_from t body k (p ∷ ps) = ended_as k (own_of t k) body p ∷ ended_each_from t body (suc k) ps

abbrev pub ended_each : Tables → ℕ → List Place → List Place
ended_each t body ps = ended_each_from t body 0 ps

-- a part, which is the last one or not
abbrev pub slate_fed : Tables → Bool → ℕ → List ℕ → List Place → List Place
slate_fed t last body xs ps = cond last (ended_each t body (fed_each t body xs ps)) (fed_each t body xs ps)

-- ---- what the code knows of the answers besides: by how much a score can change, and that the weights have 32 bits
pub record KnownRan (k : ℕ) (t : Own) (xs : List ℕ) (m : Machine) : Type 0 where
  pub small : Bounded (per_byte * length xs) (ran_at k t m xs)
  pub weighed : Weighed m t.weights (ran_at k t m xs)

abbrev pub KnownFrom : ℕ → Own → List ℕ → Machine → Score → Type 0
KnownFrom k t xs m (Err why) = Unit {0}
KnownFrom k t xs m (Ok s) = KnownRan k t xs m

abbrev pub KnownFed : ℕ → Own → List ℕ → Place → Type 0
KnownFed k t xs p = KnownFrom k t xs p.machine p.score

abbrev pub AllKnown : Tables → List ℕ → List Place → Type 0
AllKnown t xs ps = EachFrom (λ (k : ℕ) (p : Place). KnownFed k (own_of t k) xs p) 0 ps

-- of the places to which the end is a space
abbrev pub KnownEnd : ℕ → Own → Place → Type 0
KnownEnd k t p = is_single k ≡ true → KnownFed k t (space ∷ []) p

abbrev pub EndKnown : Tables → List Place → Type 0
EndKnown t ps = EachFrom (λ (k : ℕ) (p : Place). KnownEnd k (own_of t k) p) 0 ps

abbrev pub SlateKnown : Tables → Bool → ℕ → List ℕ → List Place → Type 0
SlateKnown t true body xs ps = AllKnown t xs ps × EndKnown t (fed_each t body xs ps)
SlateKnown t false body xs ps = AllKnown t xs ps
