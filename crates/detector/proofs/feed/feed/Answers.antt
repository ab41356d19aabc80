-- `feed` meets its contract.
use Rattle.std.specs.Prelude.{Ok}
use mathlib.Core.Bool.{Bool}
use mathlib.Core.Path.{◌≡◌, sym, ap, ◌∙◌}
use mathlib.Core.List.{List, [], ◌∷◌}
use Prim.Native.Nat.{ℕ, ◌-◌, ◌≤◌}
use native.Mathlib.Omega.{arith}
use lib.ListN.{length, take, drop, length-drop}
use Rattle.laws.specs.Lists.{rest_is}
use Rattle.tables.specs.Tables.{Tables, sized_b}
use Rattle.state.specs.Order.{InOrder}
use Rattle.places.specs.Fed.{fed_each, slate_fed, AllKnown, SlateKnown}
use Rattle.places.specs.declared.place.Place.{Place}
use Rattle.detector.specs.Feed.{Verdict, verdict_of, refusal_of, advance_of, accepted, feed_of}
use Rattle.detector.specs.FeedLaws.{refused_stays, accept_passed, feed_refused, feed_accepted, body_short, way_nothing, way_part, way_after}
use Rattle.detector.specs.Front.{trigger_of, counted, uncounted}
use Rattle.detector.specs.Due.{DueBy, WithinBy, Roomy}
use Rattle.detector.specs.FrontLaws.{part_within, after_within, after_new}
use Rattle.detector.specs.Kept.{Passed, StaysIn}
use Rattle.detector.specs.declared.feed.Fed.{Fed}
use Rattle.detector.specs.declared.front.Due.{Due}
use Rattle.detector.specs.declared.front.Due.TheVariants.{Nothing, Part, After}
use Rattle.detector.specs.declared.front.Trigger.{Trigger}
use Rattle.state.specs.declared.front.Front.{Front}
use Rattle.state.specs.declared.State.{State}
use Rattle.detector.proofs.feed.feed.Goals as goal

module _ (t : Tables) (s : State) (xs : List ℕ) (last sized : Bool) (v : Verdict) (z : sized ≡ sized_b t) (j : v ≡ verdict_of s sized (length xs)) where
  verdict : v ≡ refusal_of t s xs
  verdict = rw z at j

  -- the chunk was accepted
  module _ (a : v ≡ Ok tt) where
    accepts : Ok tt ≡ refusal_of t s xs
    accepts = sym a ∙ verdict

    passed : Passed t s xs
    passed = accept_passed t s xs accepts

    roomy_before : Roomy s.front (length xs)
    roomy_before =
        let f = passed in
        let o = f.in_order.front in
        record { accepted = o.most; seen = omega (arith, o.counted, o.most); bodied = omega (arith, o.bodied, o.most); short = omega (arith, f.short) }

    abbrev Result : State → Type 0
    Result x = (x ≡ advance_of t s xs last) × InOrder x

    -- and the state x comes of it
    module _ (x : State) (w : Result x) (r : Fed) (i : r ≡ accepted x) where
      done : r ≡ feed_of t s xs last
      done = i ∙ (ap accepted w.0 ∙ feed_accepted t s xs last accepts)

      stays : StaysIn r.reply r.state
      stays = rw i w.1

    -- the front after the chunk, uncounted
    module _ (g : Trigger) (next : Front) (gi : g ≡ trigger_of s.front xs) (n : next ≡ uncounted s.front xs last g) where
      uncounted_is : next ≡ uncounted s.front xs last (trigger_of s.front xs)
      uncounted_is = rw gi at n

      roomy : (part : List ℕ) → length part ≤ length xs → Roomy next (length part)
      roomy part h =
          let f = passed in
          rw uncounted_is
          (record {
            accepted = f.short;
            seen = omega (arith, f.in_order.front.counted, f.in_order.front.most);
            bodied = body_short t s xs last f;
            short = omega (arith, f.short);
          })

      module _ (d : Due) (due : DueBy s.front.context g d) where
        due_is : DueBy s.front.context (trigger_of s.front xs) d
        due_is = rw gi at due

        module _ (within : WithinBy s.front.context g d) where
          from_within : (n : ℕ) → d ≡ Part n → n ≤ length xs
          from_within = part_within s.front xs g gi d within

        nothing_way : d ≡ Nothing → Result (record { front = next; places = s.places })
        nothing_way q = way_nothing t s xs last passed d due_is q next uncounted_is

        part_way : (n : ℕ) → d ≡ Part n → (front : Front) (r : List Place) → front ≡ counted next (take (length xs - n) (drop n xs)) → r ≡ slate_fed t last next.body (take (length xs - n) (drop n xs)) s.places → SlateKnown t last next.body (take (length xs - n) (drop n xs)) s.places → Result (record { front = front; places = r })
        part_way n q front r b e k = way_part t s xs last passed d due_is n q (take (length xs - n) (drop n xs)) (rest_is n xs) next front r uncounted_is b e k

        after_way : WithinBy s.front.context g d → (n : ℕ) → d ≡ After n → (saved : List ℕ) → saved ≡ s.front.context.first ∷ s.front.context.second ∷ [] → (front : Front) (r : List Place) → front ≡ counted next xs → r ≡ slate_fed t last next.body xs (fed_each t 0 (take n saved) s.places) → AllKnown t (take n saved) s.places × SlateKnown t last next.body xs (fed_each t 0 (take n saved) s.places) → Result (record { front = front; places = r })
        after_way w n q saved h front r b e k =
            way_after t s xs last passed d due_is n q (after_within s.front xs g gi d w n q).1 (after_new s.front xs g gi d w n q) (take n saved) (ap (take n) h) next front r uncounted_is b e k.0 k.1

pub uncounted-next-requires : goal.uncounted-next-requires
uncounted-next-requires c = roomy_before _ c.args.state c.args.chunk.now c.args.last _ _ c.are_sized-sized.ensures c.judged.ensures c.in-Ok.is

pub slice_bounds-part-count : goal.slice_bounds-part-count
slice_bounds-part-count c = from_within _ c.args.state c.args.chunk.now c.args.last _ _ c.are_sized-sized.ensures c.judged.ensures c.in-Ok.is _ _ c.trigger_in-trigger.ensures c.uncounted-next.ensures _ c.due_by.ensures.due_by c.due_by.ensures.within_by c.in-Part.from c.in-Part.is

pub slice_bounds-part-start : goal.slice_bounds-part-start
slice_bounds-part-start c = from_within _ c.args.state c.args.chunk.now c.args.last _ _ c.are_sized-sized.ensures c.judged.ensures c.in-Ok.is _ _ c.trigger_in-trigger.ensures c.uncounted-next.ensures _ c.due_by.ensures.due_by c.due_by.ensures.within_by c.in-Part.from c.in-Part.is

pub counted-requires : goal.counted-requires
counted-requires c =
    let xs = c.args.chunk.now in
    let n = c.in-Part.from in
    roomy _ c.args.state c.args.chunk.now c.args.last _ _ c.are_sized-sized.ensures c.judged.ensures c.in-Ok.is _ _ c.trigger_in-trigger.ensures c.uncounted-next.ensures (take (length xs - n) (drop n xs)) (rw (rest_is, length-drop) (omega arith))

pub counted-requires-in-After : goal.counted-requires-in-After
counted-requires-in-After c = roomy _ c.args.state c.args.chunk.now c.args.last _ _ c.are_sized-sized.ensures c.judged.ensures c.in-Ok.is _ _ c.trigger_in-trigger.ensures c.uncounted-next.ensures c.args.chunk.now (omega arith)

pub returns-in-Err-clause-value : goal.returns-in-Err-clause-value
returns-in-Err-clause-value c = feed_refused _ c.args.state c.args.chunk.now c.args.last c.in-Err.reply (sym c.in-Err.is ∙ verdict _ c.args.state c.args.chunk.now c.args.last _ _ c.are_sized-sized.ensures c.judged.ensures)

pub returns-in-Err-clause-stays_in : goal.returns-in-Err-clause-stays_in
returns-in-Err-clause-stays_in c = refused_stays c.args.state (length c.args.chunk.now) _ c.in-Err.reply (sym c.in-Err.is ∙ c.judged.ensures)

pub returns-in-Nothing-clause-value : goal.returns-in-Nothing-clause-value
returns-in-Nothing-clause-value c = done _ c.args.state c.args.chunk.now c.args.last _ _ c.are_sized-sized.ensures c.judged.ensures c.in-Ok.is _ (nothing_way _ c.args.state c.args.chunk.now c.args.last _ _ c.are_sized-sized.ensures c.judged.ensures c.in-Ok.is _ _ c.trigger_in-trigger.ensures c.uncounted-next.ensures _ c.due_by.ensures.due_by c.in-Nothing.is) c.accepted.result c.accepted.ensures

pub returns-in-Nothing-clause-stays_in : goal.returns-in-Nothing-clause-stays_in
returns-in-Nothing-clause-stays_in c = stays _ c.args.state c.args.chunk.now c.args.last _ _ c.are_sized-sized.ensures c.judged.ensures c.in-Ok.is _ (nothing_way _ c.args.state c.args.chunk.now c.args.last _ _ c.are_sized-sized.ensures c.judged.ensures c.in-Ok.is _ _ c.trigger_in-trigger.ensures c.uncounted-next.ensures _ c.due_by.ensures.due_by c.in-Nothing.is) c.accepted.result c.accepted.ensures

pub returns-in-Part-clause-value : goal.returns-in-Part-clause-value
returns-in-Part-clause-value c = done _ c.args.state c.args.chunk.now c.args.last _ _ c.are_sized-sized.ensures c.judged.ensures c.in-Ok.is _ (part_way _ c.args.state c.args.chunk.now c.args.last _ _ c.are_sized-sized.ensures c.judged.ensures c.in-Ok.is _ _ c.trigger_in-trigger.ensures c.uncounted-next.ensures _ c.due_by.ensures.due_by c.in-Part.from c.in-Part.is c.counted.result c.feed-fed.result c.counted.ensures c.feed-fed.ensures.value c.feed-fed.ensures.slate_known) c.accepted-in-Part.result c.accepted-in-Part.ensures

pub returns-in-Part-clause-stays_in : goal.returns-in-Part-clause-stays_in
returns-in-Part-clause-stays_in c = stays _ c.args.state c.args.chunk.now c.args.last _ _ c.are_sized-sized.ensures c.judged.ensures c.in-Ok.is _ (part_way _ c.args.state c.args.chunk.now c.args.last _ _ c.are_sized-sized.ensures c.judged.ensures c.in-Ok.is _ _ c.trigger_in-trigger.ensures c.uncounted-next.ensures _ c.due_by.ensures.due_by c.in-Part.from c.in-Part.is c.counted.result c.feed-fed.result c.counted.ensures c.feed-fed.ensures.value c.feed-fed.ensures.slate_known) c.accepted-in-Part.result c.accepted-in-Part.ensures

pub returns-in-After-clause-value : goal.returns-in-After-clause-value
returns-in-After-clause-value c = done _ c.args.state c.args.chunk.now c.args.last _ _ c.are_sized-sized.ensures c.judged.ensures c.in-Ok.is _ (after_way _ c.args.state c.args.chunk.now c.args.last _ _ c.are_sized-sized.ensures c.judged.ensures c.in-Ok.is _ _ c.trigger_in-trigger.ensures c.uncounted-next.ensures _ c.due_by.ensures.due_by c.due_by.ensures.within_by c.in-After.count c.in-After.is c.bytes-saved.result c.bytes-saved.ensures c.counted-in-After.result c.feed_after-fed.result c.counted-in-After.ensures c.feed_after-fed.ensures.value c.feed_after-fed.ensures.all_known) c.accepted-in-After.result c.accepted-in-After.ensures

pub returns-in-After-clause-stays_in : goal.returns-in-After-clause-stays_in
returns-in-After-clause-stays_in c = stays _ c.args.state c.args.chunk.now c.args.last _ _ c.are_sized-sized.ensures c.judged.ensures c.in-Ok.is _ (after_way _ c.args.state c.args.chunk.now c.args.last _ _ c.are_sized-sized.ensures c.judged.ensures c.in-Ok.is _ _ c.trigger_in-trigger.ensures c.uncounted-next.ensures _ c.due_by.ensures.due_by c.due_by.ensures.within_by c.in-After.count c.in-After.is c.bytes-saved.result c.bytes-saved.ensures c.counted-in-After.result c.feed_after-fed.result c.counted-in-After.ensures c.feed_after-fed.ensures.value c.feed_after-fed.ensures.all_known) c.accepted-in-After.result c.accepted-in-After.ensures
