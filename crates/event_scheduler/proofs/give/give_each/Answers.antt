-- Each time events are dealt, or the choice of the moment is given, with what is chosen after it, or its lane's ring is full.
use Rattle.std.proofs.Common.{◌≡◌, ◌+◌, ◌<◌, [], ◌++◌, length, refl, sym, ap, ◌∙◌, subst, arith}
use Rattle.std.proofs.lemmas.List.{length-set}
use Rattle.event_scheduler.proofs.Deals.{gives_no_more, still_chosen}
use Rattle.event_scheduler.proofs.Giving.{filled, gave, refused}
use Rattle.event_scheduler.proofs.Lanes.{hidden_here, none_hidden, still_hidden}
use Rattle.event_scheduler.proofs.Passing.{chosen, gives_bounced, gives_core, gives_given, gives_none, left_few, left_run, long, long_step, passed_long}
use Rattle.event_scheduler.specs.Giving.{left}
use Rattle.evt_types.specs.Fault.{IsWithinLimits}
use Rattle.evt_types.specs.Plan.{Plan, lanes_of}
use Rattle.evt_types.specs.declared.step.Step.TheVariants.{Bounced}
use Rattle.lane_rings.specs.Ends.{offered}
use Rattle.transcripts.specs.Choice.{HasNoChoice}
use Rattle.transcripts.specs.Standing.{View}
use Rattle.event_scheduler.proofs.give.give_each.Goals as goal

pub loop-offer-init : goal.loop-offer-init
loop-offer-init g c = (
  λ pool v p n. gives_none _ _ _ c.none-skips.ensures,
  omega (arith, c.requires.room, left_few c.args.core.now.shape c.none-skips.result),
  omega (arith, left_few c.args.core.now.shape c.none-skips.result),
  c.requires.lanes,
  c.requires.shown,
  refl,
  passed_long _ [] c.none-skips.ensures,
  tt,
)

pub propose_next-requires : goal.propose_next-requires
propose_next-requires g c = c.loop-offer.invariant.7

pub bounce-requires-clause-room : goal.bounce-requires-clause-room
bounce-requires-clause-room g c =
    let was = c.loop-offer.invariant in
    let limits : IsWithinLimits c.args.core.now.shape = subst IsWithinLimits c.shape.ensures c.limit.ensures.within in
    let none : c.deal_all-dealt.result ≡ 0 = omega (arith, c.if-dealt-gt0.false) in
    let facts = still_chosen c.args.core.now.shape c.loop-offer.core c.propose_next.new.self c.deal_all-dealt.new.core c.loop-offer.skips c.deal_all-dealt.new.skips _ _ _ limits c.in-Some.ensures.same (c.deal_all-dealt.ensures.none none) was.5 c.deal_all-dealt.ensures.long c.in-Some.ensures.choice in
    omega (arith, was.1, ap (left c.args.core.now.shape) (c.deal_all-dealt.ensures.none none).1, c.deal_all-dealt.ensures.room, none, facts.1.some)

pub bounced-requires : goal.bounced-requires
bounced-requires g c =
    let was = c.loop-offer.invariant in
    let limits : IsWithinLimits c.args.core.now.shape = subst IsWithinLimits c.shape.ensures c.limit.ensures.within in
    (chosen c.args.core.now.shape c.loop-offer.skips c.loop-offer.core _ _ _ limits was.5 was.6 c.in-Some.ensures.choice).lane

pub loop-offer-smaller-then-room-eq0 : goal.loop-offer-smaller-then-room-eq0
loop-offer-smaller-then-room-eq0 g c =
    let was = c.loop-offer.invariant in
    let limits : IsWithinLimits c.args.core.now.shape = subst IsWithinLimits c.shape.ensures c.limit.ensures.within in
    let none : c.deal_all-dealt.result ≡ 0 = omega (arith, c.if-dealt-gt0.false) in
    let facts = still_chosen c.args.core.now.shape c.loop-offer.core c.propose_next.new.self c.deal_all-dealt.new.core c.loop-offer.skips c.deal_all-dealt.new.skips _ _ _ limits c.in-Some.ensures.same (c.deal_all-dealt.ensures.none none) was.5 c.deal_all-dealt.ensures.long c.in-Some.ensures.choice in
    omega (arith, ap (left c.args.core.now.shape) c.bounced.ensures, ap (left c.args.core.now.shape) (c.deal_all-dealt.ensures.none none).1, facts.1.bounced)

pub loop-offer-preserved-then-room-eq0 : goal.loop-offer-preserved-then-room-eq0
loop-offer-preserved-then-room-eq0 g c =
    let was = c.loop-offer.invariant in
    let limits : IsWithinLimits c.args.core.now.shape = subst IsWithinLimits c.shape.ensures c.limit.ensures.within in
    let same = c.in-Some.ensures.same in
    let none : c.deal_all-dealt.result ≡ 0 = omega (arith, c.if-dealt-gt0.false) in
    let stays = c.deal_all-dealt.ensures.none none in
    let core = c.deal_all-dealt.new.core in
    let lanes = c.deal_all-dealt.new.lanes.items in
    let skips = c.deal_all-dealt.new.skips in
    let shape : core.shape ≡ c.args.core.now.shape = ap (λ (v : View). v.shape) (stays.0 ∙ same) ∙ was.5 in
    let facts = still_chosen c.args.core.now.shape c.loop-offer.core c.propose_next.new.self core c.loop-offer.skips skips _ _ _ limits same stays was.5 c.deal_all-dealt.ensures.long c.in-Some.ensures.choice in
    let fewer : left c.args.core.now.shape c.bounced.new.self + 1 ≡ left c.args.core.now.shape skips = ap (λ x. left c.args.core.now.shape x + 1) c.bounced.ensures ∙ facts.1.bounced in
    let equal = ap (left c.args.core.now.shape) stays.1 in
    let count : length lanes ≡ lanes_of core.shape = c.deal_all-dealt.ensures.lanes ∙ (was.3 ∙ ap (λ (v : View). lanes_of v.shape) (sym (stays.0 ∙ same))) in
    let within : c.in-Some.offer.lane < length lanes = omega (arith, count, facts.0.fits.lane) in
    let looked = c.room-room.ensures in
    let there = c.index_mut-near.ensures.value in (
      λ pool v p n.
          gives_bounced _ _ _ _ _ _ _ _ _ _ _ _ _ (gives_no_more skips c.loop-offer.given c.loop-offer.bounced c.deal_all-dealt.result _ _ _ _ none
          (c.deal_all-dealt.ensures.gives pool v p n c.loop-offer.given c.loop-offer.bounced _ _ (gives_core pool c.loop-offer.core c.propose_next.new.self c.loop-offer.lanes.items v p n c.loop-offer.skips _ _ _ _ _ same (was.0 pool v p n))))
          facts.0
          (filled pool core lanes v p n c.in-Some.offer.lane _ within there (looked.full c.if-room-eq0.true))
          (refused pool core lanes v p n c.in-Some.offer.lane _ c.room-room.new.self _ _ there looked.lane looked.lists.0 looked.lists.2 looked.lists.3
          c.bounce.ensures.logged c.bounce.ensures.stands)
          c.bounced.ensures,
      omega (arith, fewer, equal, was.1, none, c.deal_all-dealt.ensures.room, c.bounce.ensures.room),
      omega (arith, fewer, equal, was.2),
      length-set _ _ _ ∙ count,
      still_hidden _ c.in-Some.offer.lane _ c.room-room.new.self there looked.lists.1 c.deal_all-dealt.ensures.shown,
      shape,
      subst long (sym c.bounced.ensures) (long_step skips (Bounced c.in-Some.offer.lane) c.deal_all-dealt.ensures.long),
      tt,
    )

pub give_run-next-requires-clause-room : goal.give_run-next-requires-clause-room
give_run-next-requires-clause-room g c =
    let was = c.loop-offer.invariant in
    let limits : IsWithinLimits c.args.core.now.shape = subst IsWithinLimits c.shape.ensures c.limit.ensures.within in
    let same = c.in-Some.ensures.same in
    let none : c.deal_all-dealt.result ≡ 0 = omega (arith, c.if-dealt-gt0.false) in
    let stays = c.deal_all-dealt.ensures.none none in
    let facts = still_chosen c.args.core.now.shape c.loop-offer.core c.propose_next.new.self c.deal_all-dealt.new.core c.loop-offer.skips c.deal_all-dealt.new.skips _ _ _ limits same stays was.5 c.deal_all-dealt.ensures.long c.in-Some.ensures.choice in
    let sweep = ap (λ (v : View). v.shape.sweep) (stays.0 ∙ same) in
    omega (arith, sweep, ap (λ (p : Plan). p.sweep) was.5, was.1, ap (left c.args.core.now.shape) stays.1, none, c.deal_all-dealt.ensures.room, facts.1.quota)

pub offer_all-requires-clause-shown : goal.offer_all-requires-clause-shown
offer_all-requires-clause-shown g c =
    let was = c.loop-offer.invariant in
    let within : c.in-Some.offer.lane < length c.deal_all-dealt.new.lanes.items = omega (arith, c.deal_all-dealt.ensures.lanes, was.3, c.in-Some.ensures.choice.fits.lane) in
    c.room-room.ensures.lists.1 ∙ hidden_here c.deal_all-dealt.new.lanes.items c.in-Some.offer.lane _ within c.index_mut-near.ensures.value c.deal_all-dealt.ensures.shown

pub loop-offer-smaller : goal.loop-offer-smaller
loop-offer-smaller g c =
    let was = c.loop-offer.invariant in
    let limits : IsWithinLimits c.args.core.now.shape = subst IsWithinLimits c.shape.ensures c.limit.ensures.within in
    let none : c.deal_all-dealt.result ≡ 0 = omega (arith, c.if-dealt-gt0.false) in
    let stays = c.deal_all-dealt.ensures.none none in
    let shape : c.deal_all-dealt.new.core.shape ≡ c.args.core.now.shape = ap (λ (v : View). v.shape) (stays.0 ∙ c.in-Some.ensures.same) ∙ was.5 in
    let run = left_run c.args.core.now.shape _ _ _ _ _ _ limits shape c.deal_all-dealt.ensures.long c.give_run-next.ensures.choices in
    omega (arith, run.0, ap (left c.args.core.now.shape) stays.1, c.give_run-next.ensures.some (omega (arith, c.if-room-eq0.false)))

pub loop-offer-preserved : goal.loop-offer-preserved
loop-offer-preserved g c =
    let was = c.loop-offer.invariant in
    let limits : IsWithinLimits c.args.core.now.shape = subst IsWithinLimits c.shape.ensures c.limit.ensures.within in
    let same = c.in-Some.ensures.same in
    let none : c.deal_all-dealt.result ≡ 0 = omega (arith, c.if-dealt-gt0.false) in
    let stays = c.deal_all-dealt.ensures.none none in
    let core = c.deal_all-dealt.new.core in
    let lanes = c.deal_all-dealt.new.lanes.items in
    let skips = c.deal_all-dealt.new.skips in
    let shape : core.shape ≡ c.args.core.now.shape = ap (λ (v : View). v.shape) (stays.0 ∙ same) ∙ was.5 in
    let equal = ap (left c.args.core.now.shape) stays.1 in
    let run = left_run c.args.core.now.shape _ _ _ _ _ _ limits shape c.deal_all-dealt.ensures.long c.give_run-next.ensures.choices in
    let count : length lanes ≡ lanes_of core.shape = c.deal_all-dealt.ensures.lanes ∙ (was.3 ∙ ap (λ (v : View). lanes_of v.shape) (sym (stays.0 ∙ same))) in
    let within : c.in-Some.offer.lane < length lanes = omega (arith, c.deal_all-dealt.ensures.lanes, was.3, c.in-Some.ensures.choice.fits.lane) in
    let looked = c.room-room.ensures in
    let put = c.offer_all.ensures in
    let there = c.index_mut-near.ensures.value in (
      λ pool v p n.
          gives_given _ _ _ _ _ _ _ _ _ _ _ _ _ c.len-given.ensures.value (gives_no_more skips c.loop-offer.given c.loop-offer.bounced c.deal_all-dealt.result _ _ _ _ none
          (c.deal_all-dealt.ensures.gives pool v p n c.loop-offer.given c.loop-offer.bounced _ _ (gives_core pool c.loop-offer.core c.propose_next.new.self c.loop-offer.lanes.items v p n c.loop-offer.skips _ _ _ _ _ same (was.0 pool v p n))))
          c.give_run-next.ensures.choices
          (gave pool core c.give_run-next.new.self lanes v p n c.in-Some.offer.lane c.give_run-next.new.run.items skips c.give_run-next.new.skips _ c.offer_all.new.self _ _ within there
          (put.lane ∙ looked.lane) (put.offered ∙ (ap (λ xs. xs ++ c.as_slice.result.now) looked.lists.0 ∙ ap (λ xs. offered c.index_mut-near.result.now ++ xs) c.as_slice.ensures.value))
          (put.replies.0 ∙ looked.lists.2) (put.replies.1 ∙ looked.lists.3) c.give_run-next.ensures.choices c.give_run-next.ensures.shape c.give_run-next.ensures.logged c.give_run-next.ensures.stands),
      omega (arith, run.0, equal, was.1, none, c.deal_all-dealt.ensures.room, c.give_run-next.ensures.room),
      omega (arith, run.0, equal, was.2, c.len-given.ensures.value),
      length-set _ _ _ ∙ (count ∙ ap lanes_of (sym c.give_run-next.ensures.shape)),
      none_hidden _ c.in-Some.offer.lane _ c.offer_all.new.self within there put.shown c.deal_all-dealt.ensures.shown,
      c.give_run-next.ensures.shape ∙ shape,
      run.1,
      c.turn_by-turn.ensures _ _ c.give_run-next.ensures.turn,
    )

pub returns-clause-gives : goal.returns-clause-gives
returns-clause-gives g c pool v p n =
    let same = c.in_default.ensures.same in
    record {
      skips = c.loop-offer.skips;
      gives = gives_core pool c.loop-offer.core c.propose_next.new.self c.loop-offer.lanes.items v p n c.loop-offer.skips _ _ _ _ _ same (c.loop-offer.invariant.0 pool v p n);
      done = subst (λ core. HasNoChoice core c.loop-offer.skips) (sym same) c.in_default.ensures.none;
    }
