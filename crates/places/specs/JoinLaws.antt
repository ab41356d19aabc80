-- Two parts, one after the other: feeding the second after the first is feeding the two joined. Of the bytes from the end of the
-- head on those of the second part have not come when the first one is fed.
use Rattle.std.specs.Prelude.{◌≡◌, ℕ, suc, ◌+◌, ◌-◌, Bool, true, false, List, [], ◌∷◌, ◌++◌, length, ℤ, Ok, Err}
use Rattle.std.proofs.Math.Path.{refl}
use Rattle.std.proofs.Common.{sym, ap, ◌∙◌, arith}
use Rattle.std.proofs.Math.ListN.{length-append}
use Rattle.laws.specs.Carried.{Holds}
use Rattle.laws.specs.Run.{Outcome, none, live, run, ends_at, run_append, run_none, ends_append, ends_none, ends_most}
use Rattle.laws.proofs.Run.{ends_live}
use Rattle.kinds.specs.KindLaws.{Alike, run_alike}
use Rattle.kinds.specs.Kinds.{step_of}
use Rattle.tables.specs.Own.{Own, own_of}
use Rattle.tables.specs.Tables.{Tables}
use Rattle.kinds.specs.declared.machine.Machine.{Machine}
use Rattle.places.specs.Place.{place, place_as, byte_at, ran_from, part_of, end_of, feed_of}
use Rattle.places.specs.PlaceLaws.{part_none, feed_open}
use Rattle.places.specs.Slate.{feed_from, feed_all}
use Rattle.places.specs.SlateLaws.{joined}
use Rattle.places.specs.declared.place.Place.{Place}
use Rattle.places.specs.Score.{Score, no_score}

-- ---- one place
-- which machine of a kind an outcome came of does not matter to the place
same_kind : (m n : Machine) → Alike m n → (at : ℕ) (o : Outcome Machine) → place_as n at o ≡ place_as m at o
unfolding place_as
same_kind m n a at (none d) = ap (λ (k : Machine). place k (no_score d at)) a
same_kind m n a at (live k s) = refl

module _ (t : Own) (body : ℕ) (xs ys : List ℕ) where
  -- the second part, after what the first one left, which took so many bytes
  second : (m : Machine) (s : ℤ) (o : Outcome Machine) → Holds (Alike m) o → run (step_of t) (live m s) xs ≡ o → part_of t body ys (place_as m (byte_at (body - length ys) xs (ends_at (step_of t) (live m s) xs)) o) ≡ place_as m (byte_at body (xs ++ ys) (ends_at (step_of t) (live m s) xs + ends_at (step_of t) o ys)) (run (step_of t) o ys)
  unfolding place_as ran_from
  second m s (none d) a e =
      let i = ends_at (step_of t) (live m s) xs in
      let q : byte_at (body - length ys) xs (ends_at (step_of t) (live m s) xs) ≡ byte_at body (xs ++ ys) (ends_at (step_of t) (live m s) xs + ends_at (step_of t) (none d) ys) = omega (arith, length-append xs ys, ends_none (step_of t) d ys, ends_most (step_of t) (live m s) xs) in
      rw (run_none (step_of t) d ys, q)
  second m s (live n r) a e =
      let q : byte_at body ys (ends_at (step_of t) (live n r) ys) ≡ byte_at body (xs ++ ys) (ends_at (step_of t) (live m s) xs + ends_at (step_of t) (live n r) ys) = omega (arith, length-append xs ys, ends_live (step_of t) (live m s) xs n r e) in
      rw q (same_kind m n a (byte_at body (xs ++ ys) (ends_at (step_of t) (live m s) xs + ends_at (step_of t) (live n r) ys)) (run (step_of t) (live n r) ys))

  pub part_joined : (p : Place) → part_of t body ys (part_of t (body - length ys) xs p) ≡ part_of t body (xs ++ ys) p
  part_joined p = by p.score refl
    where
      by : (c : Score) → p.score ≡ c → part_of t body ys (part_of t (body - length ys) xs p) ≡ part_of t body (xs ++ ys) p
      by (Err why) e =
          ap (part_of t body ys) (part_none t (body - length ys) xs p why.reason why.at e) ∙ (part_none t body ys p why.reason why.at e ∙ sym (part_none t body (xs ++ ys) p why.reason why.at e))
      by (Ok s) e =
          let m = p.machine in
          let o = live p.machine s in
          ap (part_of t body ys) (sym (feed_open t (body - length ys) xs p s e)) ∙ (second m s (run (step_of t) o xs) (run_alike t m s xs) refl ∙ (joined_as m s ∙ feed_open t body (xs ++ ys) p s e))
        where
          joined_as : (m : Machine) (s : ℤ) → place_as m (byte_at body (xs ++ ys) (ends_at (step_of t) (live m s) xs + ends_at (step_of t) (run (step_of t) (live m s) xs) ys)) (run (step_of t) (run (step_of t) (live m s) xs) ys) ≡ place_as m (byte_at body (xs ++ ys) (ends_at (step_of t) (live m s) (xs ++ ys))) (run (step_of t) (live m s) (xs ++ ys))
          joined_as m s = rw (ends_append (step_of t) (live m s) xs ys, run_append (step_of t) (live m s) xs ys)

  pub feed_joined : (last : Bool) (p : Place) → feed_of t last body ys (feed_of t false (body - length ys) xs p) ≡ feed_of t last body (xs ++ ys) p
  feed_joined true p = ap (end_of t body) (part_joined p)
  feed_joined false p = part_joined p

-- ---- all places
module _ (t : Tables) (last : Bool) (body : ℕ) (xs ys : List ℕ) where
  joined_from : (k : ℕ) (ps : List Place) → feed_from t last body ys k (feed_from t false (body - length ys) xs k ps) ≡ feed_from t last body (xs ++ ys) k ps
  unfolding feed_from
  joined_from k [] = refl
  joined_from k (p ∷ ps) = joined (feed_joined (own_of t k) body xs ys last p) (joined_from (suc k) ps)

  pub feed_all_joined : (ps : List Place) → feed_all t last body ys (feed_all t false (body - length ys) xs ps) ≡ feed_all t last body (xs ++ ys) ps
  feed_all_joined ps = joined_from 0 ps
