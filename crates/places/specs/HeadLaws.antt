-- What a place forgets of a head: over tables that meet the premises, two heads of plain bytes that end in the same two bytes
-- leave a fresh place the same, whatever follows them.
use Rattle.std.specs.Prelude.{◌≡◌, ℕ, suc, Bool, true, false, cond, List, [], ◌∷◌, ◌++◌, ℤ, Ok, Err}
use Rattle.std.proofs.Math.Path.{refl}
use Rattle.std.proofs.Common.{sym, ap, ◌∙◌, arith, length-append}
use Rattle.laws.specs.Each.{EachFrom, each_weaken}
use Rattle.laws.specs.Lists.{last as last_of}
use Rattle.laws.specs.Memory.{all}
use Rattle.laws.specs.Run.{Outcome, live, run, ends_at, run_append, ends_append}
use Rattle.laws.proofs.Run.{ends_live}
use Rattle.kinds.proofs.HeadLaws.{machine_forgets}
use Rattle.kinds.specs.Kinds.{fresh_of, step_of}
use Rattle.kinds.specs.Plain.{plain, Plain}
use Rattle.tables.specs.Own.{Own, own_of}
use Rattle.tables.specs.Tables.{Tables}
use Rattle.kinds.specs.declared.machine.Machine.{Machine}
use Rattle.places.specs.Order.{PlaceFor}
use Rattle.places.specs.Place.{place_as, byte_at, part_of, end_of, feed_of}
use Rattle.places.specs.PlaceLaws.{part_none, feed_open}
use Rattle.places.specs.Slate.{start_of, feed_from, feed_all}
use Rattle.places.specs.SlateLaws.{joined, start_for}
use Rattle.places.specs.declared.place.Place.{Place}
use Rattle.places.specs.Score.{Score}

-- the machine is the fresh one of its kind
abbrev pub IsFresh : Place → Type 0
IsFresh p = p.machine ≡ fresh_of p.machine

-- two heads of plain bytes that end alike
pub record EndAlike (hs gs : List ℕ) : Type 0 where
  pub one_plain : all plain hs ≡ true
  pub two_plain : all plain gs ≡ true
  pub ends : last_of 2 hs ≡ last_of 2 gs

module _ (hs gs : List ℕ) (alike : EndAlike hs gs) (last : Bool) (body : ℕ) (rest : List ℕ) where
  -- ---- one place
  module _ (t : Own) (tables : Plain t) (p : Place) (fresh : IsFresh p) where
    -- a head of plain bytes, by its last two
    by_two : (s : ℤ) (xs : List ℕ) → all plain xs ≡ true → run (step_of t) (live p.machine s) xs ≡ run (step_of t) (live (fresh_of p.machine) s) (last_of 2 xs)
    by_two s xs e = ap (λ (m : Machine). run (step_of t) (live m s) xs) fresh ∙ (machine_forgets t tables p.machine).last_two s xs e

    same_head : (s : ℤ) → run (step_of t) (live p.machine s) hs ≡ run (step_of t) (live p.machine s) gs
    same_head s =
        by_two s hs alike.one_plain ∙ (ap (run (step_of t) (live (fresh_of p.machine) s)) alike.ends ∙ sym (by_two s gs alike.two_plain))

    same_run : (s : ℤ) → run (step_of t) (live p.machine s) (hs ++ rest) ≡ run (step_of t) (live p.machine s) (gs ++ rest)
    same_run s =
        let m = p.machine in
        run_append (step_of t) (live m s) hs rest ∙ (ap (λ (o : Outcome Machine). run (step_of t) o rest) (same_head s) ∙ sym (run_append (step_of t) (live m s) gs rest))

    -- a head that lives is taken whole, so that the byte at which the rest ends has the same place after any such head
    at_rest : (s : ℤ) (xs : List ℕ) → all plain xs ≡ true → byte_at body (xs ++ rest) (ends_at (step_of t) (live p.machine s) (xs ++ rest)) ≡ byte_at body rest (ends_at (step_of t) (run (step_of t) (live p.machine s) xs) rest)
    at_rest s xs e =
        let m = p.machine in
        let l = (machine_forgets t tables p.machine).lives xs e in
        let lives : run (step_of t) (live p.machine s) xs ≡ live l.0 s = ap (λ (x : Machine). run (step_of t) (live x s) xs) fresh ∙ l.1 s in
        omega (arith, length-append xs rest, ends_append (step_of t) (live m s) xs rest, ends_live (step_of t) (live m s) xs l.0 s lives)

    same_place : (s : ℤ) → byte_at body (hs ++ rest) (ends_at (step_of t) (live p.machine s) (hs ++ rest)) ≡ byte_at body (gs ++ rest) (ends_at (step_of t) (live p.machine s) (gs ++ rest))
    same_place s =
        at_rest s hs alike.one_plain ∙ (ap (λ (o : Outcome Machine). byte_at body rest (ends_at (step_of t) o rest)) (same_head s) ∙ sym (at_rest s gs alike.two_plain))

    part_forgets : part_of t body (hs ++ rest) p ≡ part_of t body (gs ++ rest) p
    part_forgets = by p.score refl
      where
        by : (c : Score) → p.score ≡ c → part_of t body (hs ++ rest) p ≡ part_of t body (gs ++ rest) p
        by (Err why) e = part_none t body (hs ++ rest) p why.reason why.at e ∙ sym (part_none t body (gs ++ rest) p why.reason why.at e)
        by (Ok s) e =
            sym (feed_open t body (hs ++ rest) p s e) ∙ (alike_as s ∙ feed_open t body (gs ++ rest) p s e)
          where
            alike_as : (s : ℤ) → place_as p.machine (byte_at body (hs ++ rest) (ends_at (step_of t) (live p.machine s) (hs ++ rest))) (run (step_of t) (live p.machine s) (hs ++ rest)) ≡ place_as p.machine (byte_at body (gs ++ rest) (ends_at (step_of t) (live p.machine s) (gs ++ rest))) (run (step_of t) (live p.machine s) (gs ++ rest))
            alike_as s = rw (same_place s, same_run s)

    pub place_forgets : feed_of t last body (hs ++ rest) p ≡ feed_of t last body (gs ++ rest) p
    place_forgets = ap (λ (q : Place). cond last (end_of t body q) q) part_forgets

  -- ---- all places
  module _ (t : Tables) (tables : (k : ℕ) → Plain (own_of t k)) where
    forgets_from : (k : ℕ) (ps : List Place) → EachFrom (λ (j : ℕ) (p : Place). IsFresh p) k ps → feed_from t last body (hs ++ rest) k ps ≡ feed_from t last body (gs ++ rest) k ps
    unfolding feed_from
    forgets_from k [] f = refl
    forgets_from k (p ∷ ps) f = joined (place_forgets (own_of t k) (tables k) p f.0) (forgets_from (suc k) ps f.1)

    -- from any start
    pub start_forgets : (bits : ℕ) → feed_all t last body (hs ++ rest) (start_of bits) ≡ feed_all t last body (gs ++ rest) (start_of bits)
    start_forgets bits =
        forgets_from 0 (start_of bits) (each_weaken (PlaceFor 0 0 false false) (λ (j : ℕ) (p : Place). IsFresh p) (λ (j : ℕ) (p : Place) (o : PlaceFor 0 0 false false j p). o.fed_or.0) 0 (start_of bits) (start_for bits).each)
