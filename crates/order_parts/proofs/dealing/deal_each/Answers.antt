use Rattle.std.proofs.Common.{◌≡◌, ◌+◌, ◌<◌, ◌≤◌, ◌^◌, ◌++◌, ◌∷◌, [], ℕ, IsTrue, List, ap, arith, length, subst, sym, ◌∙◌}
use Rattle.std.proofs.lemmas.Bool.{false≢true}
use Rattle.std.proofs.lemmas.List.{length-set, length_push}
use Rattle.evt_types.specs.declared.event.Delivery.{Delivery}
use Rattle.evt_types.specs.declared.event.Event.{Event}
use Rattle.evt_types.specs.declared.shape.TheConstants.{MAX_DEPTH}
use Rattle.order_parts.specs.Dealing.{loads_in, room_at, IsBestOpen}
use Rattle.order_parts.specs.HandedRow.{OfFlows, with_pinned}
use Rattle.order_parts.specs.Histories.{lane_in}
use Rattle.order_parts.specs.History.{Entries, entries_of}
use Rattle.order_parts.specs.Pins.{Pin, may_pin, pin_at}
use Rattle.order_parts.specs.Rounds.{IsRound}
use Rattle.order_parts.specs.declared.history.Entry.{Entry}
use Rattle.order_parts.proofs.Dealt.{best_open, counts_dealt, dealt_next, no_lane, others_stay, plain_order}
use Rattle.order_parts.proofs.HandedOn.{of_flow}
use Rattle.order_parts.proofs.Rounds.{round_dealt}
use Rattle.small_set.specs.SmallSets.{Has}
use Rattle.order_parts.proofs.dealing.deal_each.Goals as goal
use Rattle.order_parts.proofs.dealing.deal_each.Goals.{In-Some}
use Rattle.order_parts.proofs.dealing.deal_each.Given as given

-- the lane that was found is the best one with room
best : (g : given.Over) (c : In-Some g) → IsBestOpen c.loop-delivery.pins c.loop-delivery.lanes c.args.opened.now c.slot_of-slot.result c.in-Some.lane
best g c = best_open c.loop-delivery.pins c.loop-delivery.lanes c.args.opened.now c.loop-delivery.opened c.slot_of-slot.result c.in-Some.lane c.loop-delivery.invariant.opened c.in-Some.ensures.best

pub pin_among-requires-clause-there : goal.pin_among-requires-clause-there
pin_among-requires-clause-there g c l has =
    let was = c.loop-delivery.invariant in
    let there = c.requires.there l ((was.opened l).0 has).0 in
    omega (arith, there, was.long)

pub pin_among-requires-clause-room : goal.pin_among-requires-clause-room
pin_among-requires-clause-room g c l has may =
    let was = c.loop-delivery.invariant in
    let its = (was.opened l).0 has in
    let left = was.counts c.slot_of-slot.result l its.0 may in
    omega (arith, left, its.1)

pub push-requires-clause-there : goal.push-requires-clause-there
push-requires-clause-there g c =
    let is = best g (goal.at.push-requires-clause-there g c).In-Some in
    let there = c.requires.there c.in-Some.lane is.there in
    omega (arith, there, c.loop-delivery.invariant.long)

pub push-requires-clause-low : goal.push-requires-clause-low
push-requires-clause-low g c = let is = best g (goal.at.push-requires-clause-low g c).In-Some in c.requires.low c.in-Some.lane is.there

pub push-requires-clause-room : goal.push-requires-clause-room
push-requires-clause-room g c = let is = best g (goal.at.push-requires-clause-room g c).In-Some in is.room

pub loop-delivery-preserved : goal.loop-delivery-preserved
loop-delivery-preserved g c =
    let is = best g (goal.at.loop-delivery-preserved g c).In-Some in
    let was = c.loop-delivery.invariant in
    let d : Delivery = c.delivery-item.result in
    let q : ℕ = c.args.queue in
    let l : ℕ = c.in-Some.lane in
    let i : ℕ = c.loop-delivery.delivery-index in
    let row : List Delivery = c.args.row.now in
    let ps : List Pin = c.loop-delivery.pins in
    let ls : List Entries = c.loop-delivery.lanes in
    let slot : ℕ = c.slot_of-slot.result in
    let y : Entry = record { queue = q; number = c.number.result; slot = slot; place = 0 } in
    let flow : c.flow.result ≡ d.event.flow = c.flow.ensures ∙ ap (λ (e : Event). e.flow) c.packed.ensures in
    let fits : c.flow.result < 2 ^ 32 = omega (arith, c.flow.ensures, c.packed.result.flow_fits) in
    let first = c.requires.there l is.there in
    let there : l < length ls = omega (arith, first, was.long) in
    record {
      dealt =
          λ r plain.
          dealt_next (OfFlows (goal.F-post g c.args.slot_of)) c.args.opened.now q r c.args.pins.now c.args.lanes.now row i c.loop-delivery.to.items c.push-in-loop-delivery.new.self.items d l slot c.number.result 0 r r ps c.pin_among.new.pins ls
          c.push.new.lanes c.loop-delivery-test.true c.delivery-item.is c.push-in-loop-delivery.ensures.items c.number.ensures (plain_order r c.number.result plain) c.in-Some.ensures.pinned c.push.ensures.lanes (was.dealt r plain)
          (of_flow (goal.F-post g c.args.slot_of) c.flow.result d.event.flow slot flow fits c.slot_of-slot.ensures) is (λ restoring. absurd (false≢true (sym plain ∙ restoring)));
      count = omega (arith, ap length c.push-in-loop-delivery.ensures.items, length_push c.loop-delivery.to.items l, was.count);
      round =
          subst (λ (xs : List Entries). IsRound c.pin_among.new.round (loads_in xs) c.push.new.opened) (sym c.push.ensures.lanes)
          (round_dealt ls l y (omega (arith, c.requires.there l is.there, was.long)) c.pin_among.new.round c.loop-delivery.opened c.push.new.opened c.push.ensures.fewer c.in-Some.ensures.round);
      opened = c.push.ensures.open c.args.opened.now was.opened;
      long = ap length c.push.ensures.lanes ∙ (length-set ls l (entries_of ((lane_in ls l).entries ++ y ∷ []) (lane_in ls l).capacity) ∙ was.long);
      others = λ m out. ap (λ xs. lane_in xs m) c.push.ensures.lanes ∙ others_stay ls c.args.lanes.now l y c.args.opened.now is.there was.others m out;
      counts =
          subst (λ x. (s m : ℕ) → Has c.args.opened.now m → IsTrue (may_pin (pin_at x s) m) → (pin_at x s).count + room_at c.push.new.lanes m ≤ MAX_DEPTH) (sym c.in-Some.ensures.pinned)
          (subst (λ xs. (s m : ℕ) → Has c.args.opened.now m → IsTrue (may_pin (pin_at (with_pinned ps slot l) s) m) → (pin_at (with_pinned ps slot l) s).count + room_at xs m ≤ MAX_DEPTH) (sym c.push.ensures.lanes)
          (counts_dealt ls l y there is.room ps c.args.opened.now slot is.may is.there was.counts));
    }

-- the row ends where no open lane may have the next event's slot
pub returns-in_default-clause-last : goal.returns-in_default-clause-last
returns-in_default-clause-last g c few =
    let was = c.loop-delivery.invariant in
    let d : Delivery = c.delivery-item.result in
    let slot : ℕ = c.slot_of-slot.result in
    let flow : c.flow.result ≡ d.event.flow = c.flow.ensures ∙ ap (λ (e : Event). e.flow) c.packed.ensures in
    let fits : c.flow.result < 2 ^ 32 = omega (arith, c.flow.ensures, c.packed.result.flow_fits) in
    no_lane (OfFlows (goal.F-post g c.args.slot_of)) c.args.opened.now c.loop-delivery.opened c.loop-delivery.pins c.pin_among.new.pins c.loop-delivery.lanes c.args.row.now c.loop-delivery.delivery-index (length c.loop-delivery.to.items) d slot was.count c.loop-delivery-test.true
    c.delivery-item.is (of_flow (goal.F-post g c.args.slot_of) c.flow.result d.event.flow slot flow fits c.slot_of-slot.ensures) was.opened c.in_default.ensures.same c.in_default.ensures.none
