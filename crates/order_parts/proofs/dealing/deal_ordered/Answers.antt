use Rattle.std.proofs.Common.{◌≡◌, ◌+◌, ◌-◌, ◌<◌, ◌^◌, ◌++◌, ◌∷◌, [], ℕ, List, ap, arith, length, refl, subst, sym, ◌∙◌}
use Rattle.std.proofs.lemmas.Bool.{cond-true}
use Rattle.std.proofs.lemmas.List.{length-set, length_push}
use Rattle.evt_types.specs.declared.event.Delivery.{Delivery}
use Rattle.evt_types.specs.declared.event.Event.{Event}
use Rattle.order_parts.specs.Dealing.{loads_in, IsBestOpen}
use Rattle.order_parts.specs.HandedRow.{OfFlows}
use Rattle.order_parts.specs.Histories.{lane_in}
use Rattle.order_parts.specs.History.{Entries, entries_of}
use Rattle.order_parts.specs.Orders.{handed, is_restoring}
use Rattle.order_parts.specs.Reorder.{Reordering, after_hand, open_place}
use Rattle.order_parts.specs.Rounds.{IsRound}
use Rattle.order_parts.specs.declared.history.Entry.{Entry}
use Rattle.order_parts.proofs.Dealt.{best_unpinned, dealt_next, no_lane, others_stay}
use Rattle.order_parts.proofs.HandedOn.{of_flow}
use Rattle.order_parts.proofs.Rounds.{round_dealt}
use Rattle.order_parts.proofs.dealing.deal_ordered.Goals as goal
use Rattle.order_parts.proofs.dealing.deal_ordered.Goals.{In-Some}
use Rattle.order_parts.proofs.dealing.deal_ordered.Given as given

-- the lane that was found is the best one with room
best : (g : given.Over) (c : In-Some g) → IsBestOpen [] c.loop-delivery.lanes c.args.opened.now c.slot_of-slot.result c.in-Some.lane
best g c = best_unpinned c.loop-delivery.lanes c.args.opened.now c.loop-delivery.opened c.slot_of-slot.result c.in-Some.lane c.loop-delivery.invariant.opened c.in-Some.ensures.there c.in-Some.ensures.best

pub next-requires-clause-there : goal.next-requires-clause-there
next-requires-clause-there g c l has =
    let was = c.loop-delivery.invariant in
    let there = c.requires.there l ((was.opened l).0 has).0 in
    omega (arith, there, was.long)

pub push-requires-clause-there : goal.push-requires-clause-there
push-requires-clause-there g c =
    let is = best g (goal.at.push-requires-clause-there g c).In-Some in
    let there = c.requires.there c.in-Some.lane is.there in
    omega (arith, there, c.loop-delivery.invariant.long)

pub push-requires-clause-low : goal.push-requires-clause-low
push-requires-clause-low g c = let is = best g (goal.at.push-requires-clause-low g c).In-Some in c.requires.low c.in-Some.lane is.there

pub push-requires-clause-room : goal.push-requires-clause-room
push-requires-clause-room g c = let is = best g (goal.at.push-requires-clause-room g c).In-Some in is.room

pub loop-delivery-preserved : goal.loop-delivery-preserved
loop-delivery-preserved g c =
    let is = best g (goal.at.loop-delivery-preserved g c).In-Some in
    let was = c.loop-delivery.invariant in
    let d : Delivery = c.delivery-item.result in
    let q : ℕ = c.args.queue in
    let l : ℕ = c.in-Some.lane in
    let i : ℕ = c.loop-delivery.delivery-index in
    let row : List Delivery = c.args.row.now in
    let r : Reordering = c.loop-delivery.order in
    let ls : List Entries = c.loop-delivery.lanes in
    let slot : ℕ = c.slot_of-slot.result in
    let y : Entry = record { queue = q; number = c.number-number.result; slot = slot; place = c.hand-place.result } in
    let rest : length row - i ≡ length row - (i + 1) + 1 = omega (arith, c.loop-delivery-test.true) in
    let flow : c.flow.result ≡ d.event.flow = c.flow.ensures ∙ ap (λ (e : Event). e.flow) c.packed.ensures in
    let fits : c.flow.result < 2 ^ 32 = omega (arith, c.flow.ensures, c.packed.result.flow_fits) in
    let order : c.hand-place.new.self ≡ handed r c.number-number.result = c.hand-place.ensures.handed ∙ sym (cond-true (is_restoring r) (after_hand r c.number-number.result) r was.restores) in
    record {
      dealt =
          dealt_next (OfFlows (goal.F-post g c.args.slot_of)) c.args.opened.now q c.args.order.now [] c.args.lanes.now row i c.loop-delivery.to.items c.push-in-loop-delivery.new.self.items d l slot c.number-number.result c.hand-place.result r
          c.hand-place.new.self [] [] ls c.push.new.lanes c.loop-delivery-test.true c.delivery-item.is c.push-in-loop-delivery.ensures.items c.number-number.ensures order refl c.push.ensures.lanes was.dealt
          (of_flow (goal.F-post g c.args.slot_of) c.flow.result d.event.flow slot flow fits c.slot_of-slot.ensures) is (λ restoring. c.hand-place.ensures.value);
      count = omega (arith, ap length c.push-in-loop-delivery.ensures.items, length_push c.loop-delivery.to.items l, was.count);
      round =
          subst (λ (xs : List Entries). IsRound c.next.new.self (loads_in xs) c.push.new.opened) (sym c.push.ensures.lanes)
          (round_dealt ls l y (omega (arith, c.requires.there l is.there, was.long)) c.next.new.self c.loop-delivery.opened c.push.new.opened c.push.ensures.fewer c.in-Some.ensures.round);
      opened = c.push.ensures.open c.args.opened.now was.opened;
      long = ap length c.push.ensures.lanes ∙ (length-set ls l (entries_of ((lane_in ls l).entries ++ y ∷ []) (lane_in ls l).capacity) ∙ was.long);
      others = λ m out. ap (λ xs. lane_in xs m) c.push.ensures.lanes ∙ others_stay ls c.args.lanes.now l y c.args.opened.now is.there was.others m out;
      restores = ap is_restoring c.hand-place.ensures.handed ∙ was.restores;
      places = omega (arith, ap (λ (x : Reordering). length x.places) c.hand-place.ensures.handed, ap (λ (x : Reordering). x.depth) c.hand-place.ensures.handed, length_push r.places (open_place c.number-number.result), was.places, rest);
    }

-- the row ends where no open lane may have the next event's slot
pub returns-in_default-clause-last : goal.returns-in_default-clause-last
returns-in_default-clause-last g c few =
    let was = c.loop-delivery.invariant in
    let d : Delivery = c.delivery-item.result in
    let slot : ℕ = c.slot_of-slot.result in
    let flow : c.flow.result ≡ d.event.flow = c.flow.ensures ∙ ap (λ (e : Event). e.flow) c.packed.ensures in
    let fits : c.flow.result < 2 ^ 32 = omega (arith, c.flow.ensures, c.packed.result.flow_fits) in
    no_lane (OfFlows (goal.F-post g c.args.slot_of)) c.args.opened.now c.loop-delivery.opened [] [] c.loop-delivery.lanes c.args.row.now c.loop-delivery.delivery-index (length c.loop-delivery.to.items) d slot was.count c.loop-delivery-test.true
    c.delivery-item.is (of_flow (goal.F-post g c.args.slot_of) c.flow.result d.event.flow slot flow fits c.slot_of-slot.ensures) was.opened refl (λ l has may. c.in_default.ensures.none l has)
