-- What is left is what went in and didn't come out.
use Rattle.std.proofs.Common.{◌≡◌, ◌+◌, ◌≤◌, ◌∙◌, List, [], ◌++◌, length, arith, ap}
use Rattle.std.proofs.lemmas.Grind.{common_steps}
use Rattle.rtrb.specs.Ring.{sent, received, known_items, consumer_capacity}
use Rattle.evt_types.specs.declared.event.Delivery.{Delivery}
use Rattle.evt_types.specs.declared.event.Reply.{Reply}
use Rattle.lane_rings.specs.Ends.{offered, taken, received_by, answered}
use Rattle.lane_rings.specs.Identity.{LaneId, near_id, far_id}
use Rattle.lane_rings.specs.Intakes.{inside}
use Rattle.lane_rings.proofs.Handing.{few_inside}
use Rattle.lane_rings.proofs.Room.{few_left}
use Rattle.lane_rings.proofs.pair.beside.Goals as goal

pub returns-clause-fetched : goal.returns-clause-fetched
returns-clause-fetched c =
    let fetched : List Reply = inside c.args.near.replies in
    let back : List Reply = fetched ++ known_items c.slots_beside-4.new.self in
    let given : answered c.args.far ≡ taken c.args.near ++ back = grind (arith, common_steps) in
    let from : answered c.args.far ≡ sent c.slots_beside-2.new.self ++ [] = grind (arith, common_steps) in
    let out : received c.args.near.replies.ring ≡ taken c.args.near ++ fetched = c.args.near.replies.last in
    let same : (near_id c.args.near).room ≡ (far_id c.args.far).room = ap (λ (l : LaneId). l.room) c.requires in
    let whole : c.slots_beside-2.result + length (sent c.slots_beside-2.new.self) ≡ consumer_capacity c.args.near.replies.ring + length (received c.args.near.replies.ring) =
    omega (arith, same, c.slots_beside-2.ensures.all_free, ap length c.slots_beside-2.ensures.consumer.1, c.slots_beside-2.ensures.looked.0.1)
    in
    few_left _ (sent c.slots_beside-2.new.self) [] _ fetched _ back c.slots_beside-2.result _ from given out (omega arith) whole

pub returns-clause-room : goal.returns-clause-room
returns-clause-room c =
    let rest : List Delivery = (inside c.args.far.deliveries ++ known_items c.slots_beside-3.new.self) ++ c.from.result.items in
    let all : offered c.args.near ≡ received_by c.args.far ++ rest = grind (arith, common_steps) in
    let sent_is : offered c.args.near ≡ sent c.slots_beside.new.self ++ c.args.near.deliveries.batch.items = grind (arith, common_steps) in
    let came : received c.args.far.deliveries.ring ≡ received_by c.args.far ++ [] = c.args.far.deliveries.last ∙ ap (λ (ds : List Delivery). received_by c.args.far ++ ds) c.args.far.all_received in
    let depth : (near_id c.args.near).depth ≡ (far_id c.args.far).depth = ap (λ (l : LaneId). l.depth) c.requires in
    let slots : c.slots_beside.result + length (sent c.slots_beside.new.self) ≡ consumer_capacity c.args.far.deliveries.ring + length (received c.args.far.deliveries.ring) =
    omega (arith, depth, c.slots_beside.ensures.all_free, ap length c.slots_beside.ensures.consumer.1, c.slots_beside.ensures.looked.0.1)
    in
    let gathered : length c.args.near.deliveries.batch.items ≤ c.slots_beside.result = omega arith in
    let deliveries = few_left _ (sent c.slots_beside.new.self) c.args.near.deliveries.batch.items _ [] _ rest c.slots_beside.result _ sent_is all came gathered slots in (
      omega (arith, deliveries, depth),
      omega (arith, returns-clause-fetched c, c.args.near.replies.room, few_inside c.args.near.replies.at c.args.near.replies.end c.args.near.replies.places.items),
    )
