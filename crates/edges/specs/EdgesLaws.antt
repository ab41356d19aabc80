-- The edge table holds: a first chunk that begins with a trigger reaches every place whole, and the machines' own lines say what
-- it does there.
use Rattle.std.specs.Prelude.{◌≡◌, refl, Bool, true, ℕ, suc, ◌+◌, ◌*◌, ◌^◌, ◌<◌, ◌≤◌, eqb, ℤ, pos, ◌+ℤ◌, set}
use Rattle.std.proofs.Common.{sym, subst, ◌∙◌, arith, length-set, get_or-set_same, get_or-set_other, le-leb, ne_eqb}
use Rattle.std.proofs.Math.Path.{ap}
use Rattle.std.proofs.Math.Bool.{false}
use mathlib.Core.List.{List, [], ◌∷◌}
use Rattle.std.proofs.Math.IntN.{+ℤ_comm}
use Rattle.std.proofs.Math.ListN.{length, get_or}
use Rattle.laws.specs.Carried.{carried, run_carried, ends_carried}
use Rattle.laws.specs.Limit.{limit}
use Rattle.laws.specs.Lists.{count, last}
use Rattle.laws.specs.Handler.{vars_of}
use Rattle.laws.specs.Run.{Outcome, live, plus, takes, with_byte, run, ends_at, ends_most}
use Rattle.laws.specs.Still.{Lives}
use Rattle.laws.specs.Tests.{either}
use Rattle.context.specs.Context.{bytes_of, context_of, push_of}
use Rattle.context.specs.Head.{escape, is_trigger, head_of, scan_of}
use Rattle.context.specs.declared.Context.{Context}
use Rattle.context.specs.declared.Scanned.{Scanned}
use Rattle.context.specs.declared.Scanned.TheVariants as scanned
use Rattle.pairs.specs.Events.{event_of}
use Rattle.pairs.specs.Pairs.{is_lead}
use Rattle.pairs.specs.PairsLaws.{lead_bounds}
use Rattle.pairs.specs.Standard.{first}
use Rattle.utf8.specs.Edges as utf-8-edges
use Rattle.utf8.specs.Utf8 as utf-8
use Rattle.utf8.specs.declared.Utf8.{Utf8 as Utf8Record}
use Rattle.iso2022jp.specs.Edges as iso2022jp-edges
use Rattle.iso2022jp.specs.Iso2022Jp as iso2022jp
use Rattle.iso2022jp.specs.declared.Iso2022Jp.{Iso2022Jp as Iso2022JpRecord}
use Rattle.big5_decoder.specs.Standard.{decode_of}
use Rattle.big5.specs.Edges as big5-edges
use Rattle.big5.specs.Scoring as big5
use Rattle.big5.specs.declared.Big5.{Big5 as Big5Record}
use Rattle.euckr.specs.Edges as euckr-edges
use Rattle.euckr.specs.Edges.{Word, no_hangul, a_hangul, word_lives}
use Rattle.euckr.specs.Scoring as euckr
use Rattle.euckr.specs.declared.EucKr.{EucKr as EucKrRecord}
use Rattle.kinds.specs.Kinds.{fresh_of, step_of}
use Rattle.tables.specs.Own.{place_count, own_of}
use Rattle.tables.proofs.OwnLaws.{own_sized}
use Rattle.tables.specs.Tables.{Tables, Sized}
use Rattle.kinds.specs.declared.machine.Machine.{Machine}
use Rattle.kinds.specs.declared.machine.Machine.TheVariants.{Utf8, Iso2022Jp, EucKr, Big5}
use Rattle.places.specs.Place.{place, place_as, byte_at, ran_from, feed_of as feedPlace}
use Rattle.places.specs.Slate as slate
use Rattle.places.specs.SlateLaws.{feed_all_nil, feed_at}
use Rattle.places.specs.declared.place.Place.{Place}
use Rattle.detector.specs.Feed.{places_by, advance_of, accepted, feed_of}
use Rattle.detector.specs.Kept.{Passed}
use Rattle.detector.specs.FeedLaws.{fit_accepted, first_passed}
use Rattle.state.specs.State.{fresh, start_of}
use Rattle.detector.specs.Front.{found_as, trigger_of, some, reaches_at, reaches_by, reaches_of, context_by, esc_by, body_by, front_of}
use Rattle.state.specs.Order.{InOrder}
use Rattle.state.specs.OrderLaws.{start_in_order}
use Rattle.detector.specs.OrderLaws.{advance_in_order}
use Rattle.detector.specs.declared.feed.Fed.{Fed}
use Rattle.state.specs.declared.State.{State}
use Rattle.edges.specs.Edges.{state_after, FedAs, Leaves, without_long, Adds, EdgeTable}

-- ---- a chunk that passes the tests
module _ (t : Tables) (s : State) (xs : List ℕ) (passed : Passed t s xs) where
  fed_as_lem : (before part : List ℕ) (body : ℕ) → reaches_of s.front xs ≡ some before part → (front_of s.front xs false).body ≡ body → FedAs t s xs before part body
  unfolding advance_of places_by
  fed_as_lem before part body e q =
      record {
        reach = e;
        bodied = λ (last : Bool). ap (λ (f : Fed). f.state.front.body) (fit_accepted t s xs passed last) ∙ q;
        fed = λ (last : Bool). ap (λ (f : Fed). f.state.places) (fit_accepted t s xs passed last) ∙ rw (e, q);
      }

-- ---- a first chunk
module _ (t : Tables) (z : Sized t) (bits : ℕ) where
  first_is : (xs : List ℕ) → length xs ≤ limit → (last : Bool) → feed_of t (start_of bits) xs last ≡ accepted (advance_of t (start_of bits) xs last)
  first_is xs h last = fit_accepted t (start_of bits) xs (first_passed t z bits xs h) last

  first_as : (xs part : List ℕ) (body : ℕ) → length xs ≤ limit → reaches_of fresh xs ≡ some [] part → (front_of fresh xs false).body ≡ body → FedAs t (start_of bits) xs [] part body
  first_as xs part body h e q = fed_as_lem t (start_of bits) xs (first_passed t z bits xs h) [] part body e q

-- where it begins with a trigger, all of it is fed
first_reaches : (b : ℕ) (bs : List ℕ) → is_trigger b ≡ true → reaches_of fresh (b ∷ bs) ≡ some [] (b ∷ bs)
unfolding reaches_by reaches_at trigger_of scan_of head_of
first_reaches b bs e =
    rw e (either (λ (r : Scanned). reaches_by (context_of []) (b ∷ bs) (found_as r) ≡ some [] (b ∷ bs)) (eqb b escape) (λ q. refl) (λ q. refl))

first_body : (b : ℕ) (bs : List ℕ) → is_trigger b ≡ true → (front_of fresh (b ∷ bs) false).body ≡ length (b ∷ bs)
unfolding body_by trigger_of scan_of head_of
first_body b bs e = rw e (either (λ (r : Scanned). body_by 0 (b ∷ bs) (found_as r) ≡ length (b ∷ bs)) (eqb b escape) (λ q. omega arith) (λ q. omega arith))

module _ (t : Tables) (z : Sized t) (bits b : ℕ) (bs : List ℕ) (short : length (b ∷ bs) ≤ limit) (e : is_trigger b ≡ true) where
  abbrev xs : List ℕ
  xs = b ∷ bs

  -- a place that takes part is left with the outcome of its machine's run, and with the byte at which it ends
  first_leaves : (k : ℕ) (m : Machine) (o : Outcome Machine) (at : ℕ) → k < place_count → ((d : Place) → get_or (slate.start_of bits) k d ≡ place m (slate.taken_of bits (2 ^ k))) → run (step_of (own_of t k)) (live m (pos 0)) xs ≡ o → ends_at (step_of (own_of t k)) (live m (pos 0)) xs ≡ at → Leaves t bits k xs (place_as m at o)
  unfolding slate.start_of ran_from
  first_leaves k m o at h there q r take d =
      let ps = slate.start_of bits in
      let n = length xs in
      let back : byte_at n xs (ends_at (step_of (own_of t k)) (live m (pos 0)) xs) ≡ at = omega (arith, r, ends_most (step_of (own_of t k)) (live m (pos 0)) xs) in
      ap (λ (l : List Place). get_or l k d) ((first_as t z bits xs xs n short (first_reaches b bs e) (first_body b bs e)).fed false ∙ ap (slate.feed_all t false n xs) (feed_all_nil t 0 ps))
      ∙ (feed_at t false n xs ps d k h
      ∙ (ap (feedPlace (own_of t k) false n xs) (there d ∙ ap (place m) take) ∙ rw (back, q)))

-- ---- chunks that are saved
-- a stream of n bytes that has met no trigger
abbrev saving : ℕ → Context → ℕ → State
saving bits c n = record { front = record { context = c; esc_seen = false; non_ascii_seen = 0; closed = false; bytes = n; body = 0 }; places = slate.start_of bits }

module _ (t : Tables) (z : Sized t) (bits : ℕ) (c : Context) (n : ℕ) (o : InOrder (saving bits c n)) (xs : List ℕ) (short : n + length xs ≤ limit) where
  saving_passed : Passed t (saving bits c n) xs
  saving_passed = record { sized = z; in_order = o; going = refl; short = short }

  module _ (e : scan_of xs ≡ scanned.End) where
    saved_as : advance_of t (saving bits c n) xs false ≡ saving bits (push_of c xs) (n + length xs)
    unfolding advance_of places_by trigger_of reaches_by context_by esc_by body_by count
    saved_as = rw e

    saved_is : state_after t (saving bits c n) xs ≡ saving bits (push_of c xs) (n + length xs)
    saved_is = ap (λ (f : Fed). f.state) (fit_accepted t (saving bits c n) xs saving_passed false) ∙ saved_as

    saved_in_order : InOrder (saving bits (push_of c xs) (n + length xs))
    unfolding trigger_of reaches_by
    saved_in_order = rw saved_as at (advance_in_order t (saving bits c n) xs false saving_passed (rw e tt))

-- ---- the lines on the machines: a place's run is its machine's own
-- what EUC-KR and Big5 are lent
abbrev to_euc_kr : Tables → euckr.Lent
to_euc_kr t = euckr.lent t.euckr t.extras (euckr.scale_of t.weights)

abbrev to_big5 : Tables → big5.Lent
to_big5 t = big5.lent t.big5 (big5.scale_of t.weights)

-- a run of a machine from its fresh record comes to o, and ends at a byte
abbrev Comes : {S : Type 0} → (S → ℕ → Outcome S) → S → List ℕ → Outcome S → ℕ → Type 0
Comes step fresh xs o at = (run step (live fresh (pos 0)) xs ≡ o) × (ends_at step (live fresh (pos 0)) xs ≡ at)

module _ (t : Tables) (z : Sized t) (bits b : ℕ) (bs : List ℕ) (short : length (b ∷ bs) ≤ limit) (e : is_trigger b ≡ true) where
  own_leaves : {S : Type 0} (wrap : S → Machine) (step : S → ℕ → Outcome S) (fresh : S) (k : ℕ) → k < place_count → ((m : S) (x : ℕ) → step_of (own_of t k) (wrap m) x ≡ carried wrap (step m x)) → ((d : Place) → get_or (slate.start_of bits) k d ≡ place (wrap fresh) (slate.taken_of bits (2 ^ k))) → (o : Outcome S) (at : ℕ) → Comes step fresh (b ∷ bs) o at → Leaves t bits k (b ∷ bs) (place_as (wrap fresh) at (carried wrap o))
  unfolding carried
  own_leaves wrap step fresh k h same there o at c =
      let outer = step_of (own_of t k) in
      first_leaves t z bits b bs short e k (wrap fresh) (carried wrap o) at h there
      (run_carried wrap step outer same (live fresh (pos 0)) (b ∷ bs) ∙ ap (carried wrap) c.0)
      (ends_carried wrap step outer same (live fresh (pos 0)) (b ∷ bs) ∙ c.1)

  utf_8_leaves : (o : Outcome Utf8Record) (at : ℕ) → Comes utf-8.step_of utf-8.fresh (b ∷ bs) o at → Leaves t bits 0 (b ∷ bs) (place_as (Utf8 utf-8.fresh) at (carried Utf8 o))
  unfolding slate.start_of step_of
  utf_8_leaves = own_leaves Utf8 utf-8.step_of utf-8.fresh 0 (omega arith) (λ (m : Utf8Record) (x : ℕ). refl) (λ (d : Place). refl)

  iso2022jp_leaves : (o : Outcome Iso2022JpRecord) (at : ℕ) → Comes (iso2022jp.step_of t.jis) iso2022jp.fresh (b ∷ bs) o at → Leaves t bits 1 (b ∷ bs) (place_as (Iso2022Jp iso2022jp.fresh) at (carried Iso2022Jp o))
  unfolding slate.start_of step_of
  iso2022jp_leaves = own_leaves Iso2022Jp (iso2022jp.step_of t.jis) iso2022jp.fresh 1 (omega arith) (λ (m : Iso2022JpRecord) (x : ℕ). refl) (λ (d : Place). refl)

  euckr_leaves : (o : Outcome EucKrRecord) (at : ℕ) → Comes (euckr.step_of (to_euc_kr t)) euckr.fresh (b ∷ bs) o at → Leaves t bits 2 (b ∷ bs) (place_as (EucKr euckr.fresh) at (carried EucKr o))
  unfolding slate.start_of step_of
  euckr_leaves = own_leaves EucKr (euckr.step_of (to_euc_kr t)) euckr.fresh 2 (omega arith) (λ (m : EucKrRecord) (x : ℕ). refl) (λ (d : Place). refl)

  big5_leaves : (o : Outcome Big5Record) (at : ℕ) → Comes (big5.step_of (to_big5 t)) big5.fresh (b ∷ bs) o at → Leaves t bits 3 (b ∷ bs) (place_as (Big5 big5.fresh) at (carried Big5 o))
  unfolding slate.start_of step_of
  big5_leaves = own_leaves Big5 (big5.step_of (to_big5 t)) big5.fresh 3 (omega arith) (λ (m : Big5Record) (x : ℕ). refl) (λ (d : Place). refl)

-- where Big5's two lines that drop out end
a4_ff_at : (l : big5.Lent) → ends_at (big5.step_of l) (live big5.fresh (pos 0)) (0xA4 ∷ 0xFF ∷ []) ≡ 2
unfolding ends_at takes with_byte plus big5.step_of decode_of first vars_of event_of
a4_ff_at l = refl

lone_80_at : (l : big5.Lent) → ends_at (big5.step_of l) (live big5.fresh (pos 0)) (0x80 ∷ []) ≡ 1
unfolding ends_at takes
lone_80_at l = refl

-- ---- words of Hangul
word_length : (index : List ℕ) (n : ℕ) (xs : List ℕ) → Word index n xs → length xs ≡ 2 * n
word_length index n xs no_hangul = refl
word_length index n₁ xs (a_hangul n lead b bs pair rest) = omega (arith, word_length index n bs rest)

lead_trigger : (b : ℕ) → is_lead b ≡ true → is_trigger b ≡ true
lead_trigger b e = let h = lead_bounds b e in rw (ne_eqb b escape (λ q. omega (arith, q, h)), le-leb 0x80 b (omega (arith, h)))

-- a long-word weight of 0
sized_without : (t : Tables) → Sized t → Sized (without_long t)
sized_without t z = record { exact = rw length-set z.exact }

scale_without : (w : List ℤ) → 16 < length w → euckr.scale_of (set w 16 (pos 0)) ≡ euckr-edges.without_long (euckr.scale_of w)
unfolding euckr.scale_of
scale_without w h =
    rw (
      other 2 (omega arith),
      other 4 (omega arith),
      other 9 (omega arith),
      other 10 (omega arith),
      other 11 (omega arith),
      other 12 (omega arith),
      other 13 (omega arith),
      other 14 (omega arith),
      other 15 (omega arith),
      get_or-set_same w 16 (pos 0) (pos 0) h,
    )
  where
    other : (i : ℕ) → i < 16 → get_or (set w 16 (pos 0)) i (pos 0) ≡ get_or w i (pos 0)
    other i l = get_or-set_other w 16 i (pos 0) (pos 0) (λ q. omega (arith, q, l))

module _ (t : Tables) (z : Sized t) (bits : ℕ) where
  same_lent : to_euc_kr (without_long t) ≡ euckr-edges.short_words (to_euc_kr t)
  same_lent = ap (euckr.lent t.euckr t.extras) (scale_without t.weights (rw (own_sized t z 2 (omega arith)).1.1 (omega arith)))

  adds_at : (b : ℕ) (bs : List ℕ) (k : ℤ) → length (b ∷ bs) ≤ limit → is_trigger b ≡ true → Lives (run (euckr.step_of (euckr-edges.short_words (to_euc_kr t))) (live euckr.fresh (pos 0)) (b ∷ bs)) → run (euckr.step_of (to_euc_kr t)) (live euckr.fresh (pos 0)) (b ∷ bs) ≡ plus k (run (euckr.step_of (euckr-edges.short_words (to_euc_kr t))) (live euckr.fresh (pos 0)) (b ∷ bs)) → Adds t bits (b ∷ bs) k
  unfolding place_as carried plus
  adds_at b bs k h e l line =
      let m = l.0 in
      let s = l.1.0 in
      record {
        machine = l.0;
        score = l.1.0;
        without = euckr_leaves (without_long t) (sized_without t z) bits b bs h e (live m s) _ (ap (λ (x : euckr.Lent). run (euckr.step_of x) (live euckr.fresh (pos 0)) (b ∷ bs)) same_lent ∙ l.1.1, refl);
        with = euckr_leaves t z bits b bs h e (live m (s +ℤ k)) _ (line ∙ (ap (plus k) l.1.1 ∙ ap (live m) (+ℤ_comm k s)), refl);
      }

  adds : (n : ℕ) (k : ℤ) → suc n ≤ 7 → ((xs : List ℕ) → Word t.euckr (suc n) xs → run (euckr.step_of (to_euc_kr t)) (live euckr.fresh (pos 0)) xs ≡ plus k (run (euckr.step_of (euckr-edges.short_words (to_euc_kr t))) (live euckr.fresh (pos 0)) xs)) → (xs : List ℕ) → Word t.euckr (suc n) xs → Adds t bits xs k
  adds n₁ k h line xs (a_hangul n lead b bs pair rest) =
      let w = a_hangul n lead b bs pair rest in
      adds_at lead (b ∷ bs) k (omega (arith, word_length t.euckr (suc n) (lead ∷ b ∷ bs) w)) (lead_trigger lead pair.a_lead) (word_lives (euckr-edges.short_words (to_euc_kr t)) (suc n) (lead ∷ b ∷ bs) w euckr.fresh (pos 0) refl) (line (lead ∷ b ∷ bs) w)

-- ---- the table
-- The table holds, over all lent data of exact lengths, from any start.
pub edge_table : (t : Tables) → Sized t → (bits : ℕ) → EdgeTable t bits
unfolding advance_of trigger_of reaches_by reaches_at scan_of head_of esc_by body_by push_of last count place_as carried fresh_of big5.scale_of euckr.scale_of
edge_table t z bits =
    let start = start_in_order bits in
    let c₁ = context_of (0x61 ∷ []) in
    let c₂ = context_of (0x61 ∷ 0x62 ∷ []) in
    let c = context_of (0x62 ∷ 0x63 ∷ []) in
    let o₁ = saved_in_order t z bits (context_of []) 0 start (0x61 ∷ []) (omega arith) refl in
    let o₂ = saved_in_order t z bits c₁ 1 o₁ (0x62 ∷ []) (omega arith) refl in
    let o = saved_in_order t z bits (context_of []) 0 start (0x62 ∷ 0x63 ∷ []) (omega arith) refl in
    let e₁ = saved_is t z bits (context_of []) 0 start (0x61 ∷ []) (omega arith) refl in
    let e₂ = saved_is t z bits c₁ 1 o₁ (0x62 ∷ []) (omega arith) refl in
    let e₃ = saved_is t z bits c₂ 2 o₂ (0x63 ∷ []) (omega arith) refl in
    let e = saved_is t z bits (context_of []) 0 start (0x62 ∷ 0x63 ∷ []) (omega arith) refl in
    record {
      no_bytes = λ (last : Bool). ap (λ (f : Fed). f.state.front.non_ascii_seen) (first_is t z bits [] (omega arith) last);
      saved_singly = ap (λ (s : State). bytes_of s.front.context) (ap (λ (s : State). state_after t s (0x63 ∷ [])) (ap (λ (s : State). state_after t s (0x62 ∷ [])) e₁ ∙ e₂) ∙ e₃);
      from_1 = first_as t z bits _ _ _ (omega arith) refl refl;
      saved_then =
          subst (λ (s : State). FedAs t s (0x61 ∷ 0xE9 ∷ []) (0x62 ∷ 0x63 ∷ []) (0x61 ∷ 0xE9 ∷ []) 1) (sym e)
          (fed_as_lem t (saving bits c 2) (0x61 ∷ 0xE9 ∷ []) (saving_passed t z bits c 2 o (0x61 ∷ 0xE9 ∷ []) (omega arith)) _ _ _ refl refl);
      from_2 = first_as t z bits _ _ _ (omega arith) refl refl;
      escape_flag = λ (last : Bool). ap (λ (f : Fed). f.state.front.esc_seen) (first_is t z bits (0x61 ∷ 0x62 ∷ 0x63 ∷ 0x64 ∷ 0x1B ∷ []) (omega arith) last);
      utf_8_ed_9f_bf = utf_8_leaves t z bits _ _ (omega arith) refl _ _ (utf-8-edges.ed_9f_bf (pos 0), refl);
      utf_8_ed_a0_80 = utf_8_leaves t z bits _ _ (omega arith) refl _ _ (utf-8-edges.ed_a0_80 (pos 0));
      utf_8_f4_8f_bf_bf = utf_8_leaves t z bits _ _ (omega arith) refl _ _ (utf-8-edges.f4_8f_bf_bf (pos 0), refl);
      utf_8_f4_90_80_80 = utf_8_leaves t z bits _ _ (omega arith) refl _ _ (utf-8-edges.f4_90_80_80 (pos 0));
      utf_8_c0_80 = utf_8_leaves t z bits _ _ (omega arith) refl _ _ (utf-8-edges.c0_80 (pos 0));
      iso2022jp_escapes = iso2022jp_leaves t z bits _ _ (omega arith) refl _ _ (iso2022jp-edges.second_escape t.jis (pos 0));
      big5_fd_ff = big5_leaves t z bits _ _ (omega arith) refl _ _ (big5-edges.fd_ff (to_big5 t), refl);
      big5_fd_61 = λ q. big5_leaves t z bits _ _ (omega arith) refl _ _ (big5-edges.fd_61 (to_big5 t) q, refl);
      big5_a4_ff = big5_leaves t z bits _ _ (omega arith) refl _ _ (big5-edges.a4_ff (to_big5 t), a4_ff_at (to_big5 t));
      big5_lone_80 = big5_leaves t z bits _ _ (omega arith) refl _ _ (big5-edges.lone_80 (to_big5 t), lone_80_at (to_big5 t));
      euckr_five = adds t z bits 4 _ (omega arith) (euckr-edges.five (to_euc_kr t));
      euckr_six = adds t z bits 5 _ (omega arith) (euckr-edges.six (to_euc_kr t));
      euckr_seven = adds t z bits 6 _ (omega arith) (euckr-edges.seven (to_euc_kr t));
    }
