-- Which byte sequences a pair decoder takes for what, from where no lead is pending: Yields says it by the trail bytes and by
-- what stands at a pair's rank, Reads by the decoder's results.
use Rattle.std.specs.Prelude.{◌≡◌, Bool, true, false, cond, List, [], ◌∷◌, ℕ}
use Rattle.octets.specs.Octets.{ascii}
use Rattle.pairs.specs.Pairs.{is_lead, decoded}
use Rattle.pairs.specs.Ranks.{rank_of}
use Rattle.pairs.specs.Standard.{CodePoints, null, one, two, Layout}
use Rattle.pairs.specs.Events.{seen_by}
use Rattle.pairs.specs.declared.Event.{Event}
use Rattle.pairs.specs.declared.Event.TheVariants.{Pending, Point, Two, Error}

-- the error of a lead and a byte that makes no pair with it
abbrev pub error_at : ℕ → Event
error_at b = cond (ascii b) (Error 1) (Error 2)

-- points: what the pointers into the index stand for
module _ (is_trail : ℕ → Bool) (points : ℕ → CodePoints) where
  pub data Yields : List ℕ → Event → Type 0 where
    ascii_byte : (b : ℕ) → ascii b ≡ true → Yields (b ∷ []) (Point b)
    lone_byte : (b : ℕ) → ascii b ≡ false → is_lead b ≡ false → Yields (b ∷ []) (Error 1)
    one_point : (lead b p : ℕ) → is_lead lead ≡ true → is_trail b ≡ true → points (rank_of is_lead is_trail lead b) ≡ one p → Yields (lead ∷ b ∷ []) (Point p)
    two_points : (lead b p q : ℕ) → is_lead lead ≡ true → is_trail b ≡ true → points (rank_of is_lead is_trail lead b) ≡ two p q → Yields (lead ∷ b ∷ []) (Two p q)
    no_point : (lead b : ℕ) → is_lead lead ≡ true → is_trail b ≡ true → points (rank_of is_lead is_trail lead b) ≡ null → Yields (lead ∷ b ∷ []) (error_at b)
    no_trail : (lead b : ℕ) → is_lead lead ≡ true → is_trail b ≡ false → Yields (lead ∷ b ∷ []) (error_at b)

-- the decoder takes in the bytes, all of them, and yields the event at the last one
module _ (e : Layout) (points : ℕ → CodePoints) where
  abbrev pub Reads : List ℕ → Event → Type 0
  Reads [] v = ⊥
  Reads (b ∷ []) v = seen_by e points 0 b ≡ decoded 0 v
  Reads (lead ∷ b ∷ []) v = (seen_by e points 0 lead ≡ decoded lead Pending) × (seen_by e points lead b ≡ decoded 0 v)
  Reads (a ∷ b ∷ c ∷ bs) v = ⊥
