use Rattle.std.proofs.Common.{◌≡◌, ◌-◌, ◌<◌, ◌≤◌, arith, length, slice_index}
use Rattle.order_parts.specs.Histories.{lane_in}
use Rattle.std.proofs.lemmas.List.{length-take}
use Rattle.std.specs.Vec.{with_items}
use Rattle.sched_core.proofs.Forwarded.{still_like}
use Rattle.sched_core.proofs.LeavingRows.{HasLeft, IsRow, enough_places, front_holds, row_left}
use Rattle.sched_core.proofs.Released.{alone_here, held_few, lane_in_turn, opened_in, queue_known, some_released}
use Rattle.sched_core.proofs.state.Core.answer_row.Goals as goal
use Rattle.sched_core.proofs.state.Core.answer_row.Goals.{After-drop_oldest-2, After-unpin_oldest-count}

-- ---- what holds of the row once its events have no pins

fewest : (c : After-unpin_oldest-count) → c.like-alike.result ≤ c.in_turn-turn.result
fewest c = omega (arith, c.like-alike.ensures.few, length-take c.in_turn-turn.result c.args.replies.now)

few : (c : After-unpin_oldest-count) → c.unpin_oldest-count.result ≤ length c.args.replies.now
few c = omega (arith, c.unpin_oldest-count.ensures.few, c.fewer-most.ensures.few, fewest c, c.in_turn-turn.ensures.few)

known : (c : After-unpin_oldest-count) → c.args.queue < length c.args.self.now.shape.queues
known c = queue_known c.self.inside c.args.self.now c.args.lane c.args.queue c.requires.oldest.0 c.self.invariant c.self.view_is c.requires.lane c.requires.oldest.1 c.requires.oldest.2

row : (c : After-unpin_oldest-count) → IsRow c.self.inside c.args.self.now c.args.lane c.args.queue c.unpin_oldest-count.result
row c =
    let some : 0 < c.unpin_oldest-count.result =
    some_released c.unpin_oldest-count.result c.fewer-most.result c.self.inside c.args.self.now c.args.lane c.args.queue c.requires.oldest.0 c.self.invariant c.self.view_is c.requires.lane c.requires.oldest.1 c.requires.oldest.2
    (omega (arith, c.if-most-lt2.false)) c.unpin_oldest-count.ensures.last in
    let held : c.in_turn-turn.result ≤ length (lane_in c.self.inside.lanes c.args.lane).entries =
    held_few c.self.inside c.args.self.now c.args.lane c.in_turn-turn.result c.self.invariant c.self.view_is c.requires.lane (omega (arith, c.in_turn-turn.ensures.few, c.requires.most)) in
    let alone : slice_index c.self.inside.extras.items c.args.lane ≡ 0 = alone_here c.self.inside c.args.self.now c.args.lane _ c.self.invariant c.self.view_is c.requires.lane c.index.ensures (omega (arith, c.if-index-gt0.false)) in
    record {
      some = some;
      few = omega (arith, few c, c.requires.most);
      alone = alone;
      front = front_holds c.self.inside c.args.self.now c.args.lane c.args.queue c.unpin_oldest-count.result c.fewer-most.result c.like-alike.result c.in_turn-turn.result c.is_answered.result c.self.invariant c.self.view_is c.requires.lane (known c) alone some
          (omega (arith, few c, c.requires.most)) c.unpin_oldest-count.ensures.few c.fewer-most.ensures.few (fewest c) held c.in_turn-turn.ensures.turn c.is_answered.ensures c.fewer-most.ensures.same;
    }

-- ---- the core that it leaves

left : (c : After-drop_oldest-2) → IsRow c.self.inside c.args.self.now c.args.lane c.args.queue c.unpin_oldest-count.result
    → HasLeft (record c.self.inside { orders = c.drop_oldest.new.self; lanes = c.drop_oldest-2.new.self; pins = c.unpin_oldest-count.new.self; open_slots = with_items c.self.inside.open_slots c.open_slot.new.open_slots; inside = c.self.inside.inside - c.unpin_oldest-count.result })
    c.args.self.now c.args.lane c.args.queue c.unpin_oldest-count.result
left c of =
    row_left c.self.inside c.args.self.now c.args.lane c.args.queue c.unpin_oldest-count.result (with_items c.self.inside.open_slots c.open_slot.new.open_slots) c.drop_oldest.new.self c.drop_oldest-2.new.self c.unpin_oldest-count.new.self c.self.invariant c.self.view_is c.requires.lane
    of c.unpin_oldest-count.ensures.each
    (opened_in c.self.inside.shape c.args.lane c.self.inside.open_slots c.deref_mut.result.now c.open_slot.new.open_slots c.deref_mut.ensures.value c.deref_mut.ensures.len c.open_slot.ensures) c.drop_oldest.ensures c.drop_oldest-2.ensures c.unpin_oldest-count.ensures.value

-- ---- its goals

pub unpin_oldest-count-requires-clause-held : goal.unpin_oldest-count-requires-clause-held
unpin_oldest-count-requires-clause-held c =
    lane_in_turn c.self.inside c.args.self.now c.args.lane c.args.queue c.requires.oldest.0 c.self.invariant c.self.view_is c.requires.lane c.requires.oldest.1 c.requires.oldest.2

pub drop_oldest-requires-clause-some : goal.drop_oldest-requires-clause-some
drop_oldest-requires-clause-some c =
    let at = (goal.at.drop_oldest-requires-clause-some c).After-unpin_oldest-count in
    enough_places c.unpin_oldest-count.result c.self.inside c.args.self.now c.args.lane c.args.queue c.self.invariant c.self.view_is c.requires.lane (known at) (omega (arith, few at, c.requires.most)) (row at)

pub drop_oldest-requires-2-clause-some : goal.drop_oldest-requires-2-clause-some
drop_oldest-requires-2-clause-some c = (row (goal.at.drop_oldest-requires-2-clause-some c).After-unpin_oldest-count).some

pub invariant_of-self : goal.invariant_of-self
invariant_of-self c =
    let at = goal.at.invariant_of-self c in
    (left at.After-drop_oldest-2 (row at.After-unpin_oldest-count)).core

pub returns : goal.returns
returns c =
    let at = goal.at.returns c in
    let here = at.After-unpin_oldest-count in
    let now = left at.After-drop_oldest-2 (row here) in
    record {
      few = few here;
      like = still_like c.unpin_oldest-count.result c.like-alike.result c.in_turn-turn.result c.args.first.now c.args.replies.now (omega (arith, c.unpin_oldest-count.ensures.few, c.fewer-most.ensures.few)) (fewest here) c.like-alike.ensures.each;
      leave = now.leave;
      view = now.view;
      inside = now.inside;
      entries = now.entries;
      kept = now.kept;
    }
