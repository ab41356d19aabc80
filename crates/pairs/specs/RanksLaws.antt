-- A pair's pointer is its rank. So it lies below the number of pairs, and no two pairs share one.
use Rattle.std.specs.Prelude.{◌≡◌, Bool, ◌&&◌, ◌||◌, ◌⊎◌, ℕ, zero, suc, ◌+◌, ◌-◌, ◌*◌, ◌<◌, ◌≤◌, T, ltb, eqb, length}
use Rattle.std.proofs.Math.Path.{refl}
use Rattle.std.proofs.Common.{sym, ap, ◌∙◌, inl, inr, ⊎_elim, add-zero, suc-mul, eqb→eq, length-append}
use Rattle.std.proofs.Math.Bool.{true, false, cond}
use mathlib.Core.List.Memᴰ
use mathlib.Core.List.{List, [], ◌∷◌, map, Memᴰ}
use native.Mathlib.Omega.{arith}
use Rattle.std.proofs.lemmas.List.{length-map}
use borrow.Author.Tests.{ltb-true, eqb-true, lt-ltb, le-ltb, eq-eqb}
use Rattle.laws.specs.Lists.{count, count_append}
use Rattle.laws.specs.Table.{and_left, and_right, every, nothing, within}
use Rattle.laws.specs.Tests.{both, either}
use Rattle.pairs.specs.Pairs.{is_lead}
use Rattle.pairs.specs.PairsLaws.{lead_bounds}
use Rattle.pairs.specs.Ranks.{numbers, those, bytes, each, pairs_of, before, rank_of}
use Rattle.pairs.specs.Standard.{Layout, pointer}

-- ---- how many pairs of a product stand before one
module _ (lead b : ℕ) where
  -- those of one lead: all, those with a trail before b, or none
  row_count : (x : ℕ) (s t : Bool) → ltb x lead ≡ s → eqb x lead ≡ t → (ys : List ℕ) → count (before lead b) (map (λ (y : ℕ). (x, y)) ys) ≡ cond s (length ys) (cond t (count (λ y. ltb y b) ys) 0)
  unfolding count before
  row_count x true t e f [] = refl
  row_count x false true e f [] = refl
  row_count x false false e f [] = refl
  row_count x true t e f (y ∷ ys) = rw e (omega (arith, row_count x true t e f ys))
  row_count x false true e f (y ∷ ys) = rw (e, f) (ap (λ (n : ℕ). cond (ltb y b) 1 0 + n) (row_count x false true e f ys))
  row_count x false false e f (y ∷ ys) = rw (e, f) (omega (arith, row_count x false false e f ys))

  abbrev Split : List ℕ → List ℕ → Type 0
  Split xs ys = count (before lead b) (each xs ys) ≡ count (λ x. ltb x lead) xs * length ys + count (λ x. eqb x lead) xs * count (λ y. ltb y b) ys

  split_row : (x : ℕ) (xs ys : List ℕ) (s t : Bool) → ltb x lead ≡ s → eqb x lead ≡ t → Split xs ys → Split (x ∷ xs) ys
  unfolding count each
  split_row x xs ys true true e f h = absurd (omega (arith, ltb-true x lead e, eqb-true x lead f))
  split_row x xs ys true false e f h =
      rw (e, f, count_append, row_count x true false e f ys) (omega (arith, h))
  split_row x xs ys false true e f h =
      rw (e, f, count_append, row_count x false true e f ys) (omega (arith, h))
  split_row x xs ys false false e f h =
      rw (e, f, count_append, row_count x false false e f ys) (omega (arith, h))

  split : (xs ys : List ℕ) → Split xs ys
  unfolding count each
  split [] ys = omega arith
  split (x ∷ xs) ys = split_row x xs ys (ltb x lead) (eqb x lead) refl refl (split xs ys)

-- ---- a test that more elements pass counts more, where one of them is there
module _ {A : Type 0} (p q : A → Bool) (more : (x : A) → p x ≡ true → q x ≡ true) where
  one_less : (s t : Bool) → (s ≡ true → t ≡ true) → cond s 1 0 ≤ cond t 1 0
  one_less true true h = omega arith
  one_less true false h = let e = h refl in let z : ◌≡◌ {A = ℕ} 0 1 = cc in omega arith
  one_less false t h = omega arith

  count_less : (xs : List A) → count p xs ≤ count q xs
  unfolding count
  count_less [] = omega arith
  count_less (x ∷ xs) = omega (arith, one_less (p x) (q x) (more x), count_less xs)

  count_fewer : (x : A) (xs : List A) → Memᴰ x xs → p x ≡ false → q x ≡ true → count p xs < count q xs
  unfolding count
  count_fewer x [] m f g = elim m [ ]
  count_fewer x (y ∷ ys) (Memᴰ.head e) f g =
      let f' : p y ≡ false = rw e at f in
      let g' : q y ≡ true = rw e at g in
      rw (f', g') (omega (arith, count_less ys))
  count_fewer x (y ∷ ys) (Memᴰ.tail m) f g = omega (arith, one_less (p y) (q y) (more y), count_fewer x ys m f g)

count_all : {A : Type 0} (xs : List A) → count (λ x. true) xs ≡ length xs
unfolding count
count_all [] = refl
count_all (x ∷ xs) = omega (arith, count_all xs)

-- ---- which pairs there are
in_numbers : (k i n : ℕ) → k < n → Memᴰ (i + k) (numbers i n)
unfolding numbers
in_numbers k i zero h = absurd (omega arith)
in_numbers zero i (suc n) h = Memᴰ.head (add-zero i)
in_numbers (suc k) i (suc n) h = Memᴰ.tail (Memᴰ.cast (omega arith) (in_numbers k (suc i) n (omega arith)))

in_those : (test : ℕ → Bool) (x : ℕ) (xs : List ℕ) → test x ≡ true → Memᴰ x xs → Memᴰ x (those test xs)
unfolding those
in_those test x [] t m = elim m [ ]
in_those test x (y ∷ ys) t (Memᴰ.head e) = let t' : test y ≡ true = rw e at t in rw t' (Memᴰ.head e)
in_those test x (y ∷ ys) t (Memᴰ.tail m) =
    let h = in_those test x ys t m in
    either (Memᴰ x) (test y) (λ s. Memᴰ.tail h) (λ s. h)

abbrev In : List (ℕ × ℕ) → ℕ → ℕ → Type 0
In ps x y = Memᴰ {A = ℕ × ℕ} (x, y) ps

in_row : (x y : ℕ) (ys : List ℕ) → Memᴰ y ys → In (map (λ (z : ℕ). (x, z)) ys) x y
in_row x y [] m = elim m [ ]
in_row x y (z ∷ zs) (Memᴰ.head e) = Memᴰ.head (ap (λ (k : ℕ). (x, k)) e)
in_row x y (z ∷ zs) (Memᴰ.tail m) = Memᴰ.tail (in_row x y zs m)

in_each : (x y : ℕ) (xs ys : List ℕ) → Memᴰ x xs → Memᴰ y ys → In (each xs ys) x y
unfolding each
in_each x y [] ys m n = elim m [ ]
in_each x y (z ∷ zs) ys (Memᴰ.head e) n = let r : In (map (λ (k : ℕ). (z, k)) ys) x y = rw e (in_row z y ys n) in Memᴰ.append_left (each zs ys) r
in_each x y (z ∷ zs) ys (Memᴰ.tail m) n = Memᴰ.append_right (map (λ (k : ℕ). (z, k)) ys) (in_each x y zs ys m n)

each_length : (xs ys : List ℕ) → length (each xs ys) ≡ length xs * length ys
unfolding each
each_length [] ys = omega arith
each_length (x ∷ xs) ys = rw (length-append, length-map, suc-mul) (omega (arith, each_length xs ys))

-- ---- the order of pairs
abbrev Before : ℕ → ℕ → ℕ → ℕ → Type 0
Before x y lead b = (x < lead) ⊎ ((x ≡ lead) × (y < b))

before_true : (lead b x y : ℕ) → before lead b (x, y) ≡ true → Before x y lead b
unfolding before
before_true lead b x y e = pick (ltb x lead) refl e where
  pick : (t : Bool) → ltb x lead ≡ t → (t || (eqb x lead && ltb y b)) ≡ true → Before x y lead b
  pick true f e = inl (ltb-true x lead f)
  pick false f e = let h = both (eqb x lead) (ltb y b) e in inr (eqb-true x lead h.0, ltb-true y b h.1)

true_before : (lead b x y : ℕ) → Before x y lead b → before lead b (x, y) ≡ true
unfolding before
true_before lead b x y (inl h) = rw (lt-ltb x lead h)
true_before lead b x y (inr h) = rw (le-ltb x lead (omega arith), eq-eqb x lead h.0, lt-ltb y b h.1)

not_before_itself : (lead b : ℕ) → before lead b (lead, b) ≡ false
unfolding before
not_before_itself lead b = rw (le-ltb lead lead (omega arith), eq-eqb lead lead refl, le-ltb b b (omega arith))

-- ---- ranks
in_bytes : (test : ℕ → Bool) (x : ℕ) → test x ≡ true → x < 256 → Memᴰ x (bytes test)
in_bytes test x t h = in_those test x (numbers 0 256) t (Memᴰ.cast (omega arith) (in_numbers x 0 256 h))

module _ (is_lead is_trail : ℕ → Bool) (lead_byte : (b : ℕ) → is_lead b ≡ true → b < 256) (trail_byte : (b : ℕ) → is_trail b ≡ true → b < 256) where
  module _ (lead b : ℕ) (l : is_lead lead ≡ true) (t : is_trail b ≡ true) where
    in_pairs : In (pairs_of is_lead is_trail) lead b
    in_pairs = in_each lead b (bytes is_lead) (bytes is_trail) (in_bytes is_lead lead l (lead_byte lead l)) (in_bytes is_trail b t (trail_byte b t))

    -- a pair's rank is below the number of pairs
    pub rank_below : rank_of is_lead is_trail lead b < length (pairs_of is_lead is_trail)
    rank_below =
        rw (← count_all (pairs_of is_lead is_trail)) (count_fewer (before lead b) (λ p. true) (λ p e. refl) (lead, b) (pairs_of is_lead is_trail) in_pairs (not_before_itself lead b) refl)

    -- and below the rank of each that it stands before
    rank_less : (lead' b' : ℕ) → Before lead b lead' b' → rank_of is_lead is_trail lead b < rank_of is_lead is_trail lead' b'
    rank_less lead' b' h =
        count_fewer (before lead b) (before lead' b') more (lead, b) (pairs_of is_lead is_trail) in_pairs (not_before_itself lead b) (true_before lead' b' lead b h)
      where
        more : (p : ℕ × ℕ) → before lead b p ≡ true → before lead' b' p ≡ true
        more p e =
            true_before lead' b' p.0 p.1
            (⊎_elim (λ x. ⊎_elim (λ y. inl (omega arith)) (λ y. inl (omega arith)) h) (λ x. ⊎_elim (λ y. inl (omega arith)) (λ y. inr (omega arith, omega arith)) h) (before_true lead b p.0 p.1 e))

  -- no two pairs share a rank
  pub rank_once : (lead b lead' b' : ℕ) → is_lead lead ≡ true → is_trail b ≡ true → is_lead lead' ≡ true → is_trail b' ≡ true → rank_of is_lead is_trail lead b ≡ rank_of is_lead is_trail lead' b' → (lead ≡ lead') × (b ≡ b')
  rank_once lead b lead' b' l t l' t' e =
      let p : Before lead b lead' b' → ⊥ = λ h. omega (arith, rank_less lead b l t lead' b' h) in
      let q : Before lead' b' lead b → ⊥ = λ h. omega (arith, rank_less lead' b' l' t' lead b h) in
      let p₀ : lead < lead' → ⊥ = λ h. p (inl h) in
      let q₀ : lead' < lead → ⊥ = λ h. q (inl h) in
      let s : lead ≡ lead' = omega arith in
      let p₁ : b < b' → ⊥ = λ h. p (inr (s, h)) in
      let q₁ : b' < b → ⊥ = λ h. q (inr (sym s, h)) in
      (s, omega arith)

-- ---- a set of bytes: how many there are, and how many stand before each
pub record Counted (test : ℕ → Bool) (number : ℕ) (place : ℕ → ℕ) : Type 0 where
  pub byte : (b : ℕ) → test b ≡ true → b < 256
  pub all : length (bytes test) ≡ number
  pub earlier : (b : ℕ) → test b ≡ true → count (λ x. ltb x b) (bytes test) ≡ place b
  pub once : (b : ℕ) → test b ≡ true → count (λ x. eqb x b) (bytes test) ≡ 1

-- by one test at each byte
abbrev placed : (ℕ → Bool) → (ℕ → ℕ) → ℕ → Bool
placed test place b = eqb (count (λ x. ltb x b) (bytes test)) (place b)

abbrev single : (ℕ → Bool) → ℕ → Bool
single test b = eqb (count (λ x. eqb x b) (bytes test)) 1

unfoldable pub counts : (ℕ → Bool) → (ℕ → ℕ) → ℕ → Bool
counts test place b = cond (test b) (placed test place b && single test b) true

module _ (test : ℕ → Bool) (number : ℕ) (place : ℕ → ℕ) (byte : (b : ℕ) → test b ≡ true → b < 256) where
  tested : T (every (λ (b : ℕ) (u : Unit {0}). counts test place b) 0 (nothing 256)) → (b : ℕ) → test b ≡ true → T (placed test place b && single test b)
  unfolding counts
  tested t b h = rw h at (within (counts test place) 0 256 t b (omega arith) (omega (arith, byte b h)))

  pub counted_by : length (bytes test) ≡ number → T (every (λ (b : ℕ) (u : Unit {0}). counts test place b) 0 (nothing 256)) → Counted test number place
  counted_by n t =
      record {
        byte = byte;
        all = n;
        earlier = λ b h. eqb→eq (count (λ x. ltb x b) (bytes test)) (place b) (and_left (placed test place b) (single test b) (tested t b h));
        once = λ b h. eqb→eq (count (λ x. eqb x b) (bytes test)) 1 (and_right (placed test place b) (single test b) (tested t b h));
      }

-- the pairs of two such sets: how many there are, and how many stand before each
module _ {is_lead is_trail : ℕ → Bool} {rows columns : ℕ} {row column : ℕ → ℕ} (leads : Counted is_lead rows row) (trails : Counted is_trail columns column) where
  pub pairs_number : length (pairs_of is_lead is_trail) ≡ rows * columns
  pairs_number = each_length (bytes is_lead) (bytes is_trail) ∙ rw (leads.all, trails.all)

  pub rank_is : (lead b : ℕ) → is_lead lead ≡ true → is_trail b ≡ true → rank_of is_lead is_trail lead b ≡ row lead * columns + column b
  rank_is lead b l t =
      split lead b (bytes is_lead) (bytes is_trail) ∙ rw (leads.earlier lead l, leads.once lead l, trails.all, trails.earlier b t) (omega arith)

  -- a pointer that is the rank lies below the number of pairs
  pub below_number : (lead b at : ℕ) → is_lead lead ≡ true → is_trail b ≡ true → at ≡ rank_of is_lead is_trail lead b → at < rows * columns
  below_number lead b at l t e = rw (e, ← pairs_number) (rank_below is_lead is_trail leads.byte trails.byte lead b l t)

-- ---- pointers into the rows of Big5 and EUC-KR
leads : Counted is_lead 126 (λ lead. lead - 0x81)
unfolding count those numbers counts
leads = counted_by is_lead 126 (λ lead. lead - 0x81) (λ lead l. omega (arith, lead_bounds lead l)) refl tt

-- a layout whose row is its number of trail bytes, and whose offset leaves the number of those before a byte
abbrev pub CountedTrails : Layout → Type 0
CountedTrails e = Counted e.is_trail_lem e.row (λ b. b - e.offset b)

module _ (e : Layout) (counted : CountedTrails e) where
  module _ (lead b : ℕ) (l : is_lead lead ≡ true) (t : e.is_trail_lem b ≡ true) where
    pub pointer_rank : pointer e lead b ≡ rank_of is_lead e.is_trail_lem lead b
    pointer_rank = sym (rank_is leads counted lead b l t)

    pub pointer_below : pointer e lead b < 126 * e.row
    pointer_below = below_number leads counted lead b (pointer e lead b) l t pointer_rank

  pub pointer_once : (lead b lead' b' : ℕ) → is_lead lead ≡ true → e.is_trail_lem b ≡ true → is_lead lead' ≡ true → e.is_trail_lem b' ≡ true → pointer e lead b ≡ pointer e lead' b' → (lead ≡ lead') × (b ≡ b')
  pointer_once lead b lead' b' l t l' t' p =
      rank_once is_lead e.is_trail_lem leads.byte counted.byte lead b lead' b' l t l' t' (sym (pointer_rank lead b l t) ∙ (p ∙ pointer_rank lead' b' l' t'))
