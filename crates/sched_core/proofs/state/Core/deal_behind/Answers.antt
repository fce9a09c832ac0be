use Rattle.std.proofs.Common.{◌<◌, arith, length, subst, sym}
use Rattle.sched_core.proofs.DealsBehind.{IsDealing, allowed_still, dealing_more, dealing_none, gift_open, less_within, open_less, open_still}
use Rattle.sched_core.proofs.state.Core.deal_behind.Goals as goal
use Rattle.sched_core.proofs.state.Core.deal_behind.Goals.{else-len-bound-via-then-len-bound+else-lane_room-eq0, else-len-bound-via-else-len-bound}

pub loop-level-init : goal.loop-level-init
loop-level-init c =
    let limits = c.facts.ensures.limits in
    let there = c.requires.turn.there in
    let few = limits.queue_count.1 in
    dealing_none c.args.queue c.args.level.number c.args.bound c.args.among c.args.self.now c.args.skips.now c.args.run.now.items c.args.to.now.items c.allowed-allowed.new.self c.allowed-allowed.result c.requires.none c.requires.no_lanes
    c.allowed-allowed.ensures.same c.requires.turn c.requires.left (omega (arith, c.requires.counts, there, few)) c.requires.ports c.requires.lanes c.allowed-allowed.ensures.allowed

pub hand_next-requires-clause-lanes : goal.hand_next-requires-clause-lanes
hand_next-requires-clause-lanes c = c.loop-level.invariant.lanes (omega (arith, c.len.ensures.value, c.loop-level-test.true))

pub remove-requires : goal.remove-requires
remove-requires c =
    let few : length c.loop-level.run.items < c.args.bound = omega (arith, c.len.ensures.value, c.loop-level-test.true) in
    let has =
    gift_open c.args.queue c.args.level.number c.args.bound c.args.among c.args.self.now c.args.skips.now c.loop-level.run.items c.loop-level.to.items c.loop-level.self c.loop-level.skips c.loop-level.opened c.loop-level.allowed c.in-Some.offer.lane
    c.in-Some.offer.delivery c.hand_next.new.self c.hand_next.new.skips c.loop-level.invariant c.facts-in-loop-level.ensures.sized few c.in-Some.ensures.given
    in
    let is = (c.loop-level.invariant.lanes few c.in-Some.offer.lane).0 has in
    let limits = c.facts-in-loop-level.ensures.limits in
    let ports = limits.port_count.1 in
    let lane = is.lane in
    omega (arith, ports, lane)

pub allowed-allowed-requires-then-lane_room-eq0-clause-lanes : goal.allowed-allowed-requires-then-lane_room-eq0-clause-lanes
allowed-allowed-requires-then-lane_room-eq0-clause-lanes c =
    open_less c.args.queue c.args.level.number c.args.bound c.args.among c.args.self.now c.args.skips.now c.loop-level.run.items c.loop-level.to.items c.loop-level.self c.loop-level.skips c.loop-level.opened c.loop-level.allowed c.in-Some.offer.lane
    c.in-Some.offer.delivery c.hand_next.new.self c.hand_next.new.skips c.loop-level.invariant c.facts-in-loop-level.ensures.sized (omega (arith, c.len.ensures.value, c.loop-level-test.true)) c.in-Some.ensures.given
    (omega (arith, c.push.ensures.len, c.len-in-loop-level.ensures.value, c.if-len-bound.true)) (omega (arith, c.lane_room.ensures, c.if-lane_room-eq0.true)) c.remove.new.self c.remove.ensures.gone c.remove.ensures.others

pub loop-level-preserved-then-lane_room-eq0 : goal.loop-level-preserved-then-lane_room-eq0
loop-level-preserved-then-lane_room-eq0 c =
    let q = c.args.queue in
    let v = c.args.self.now in
    let s = c.args.skips.now in
    let ds = c.loop-level.run.items in
    let to = c.loop-level.to.items in
    let l = c.in-Some.offer.lane in
    let d = c.in-Some.offer.delivery in
    let few : length c.loop-level.run.items < c.args.bound = omega (arith, c.len.ensures.value, c.loop-level-test.true) in
    subst (λ u. IsDealing q c.args.level.number c.args.bound c.args.among v s c.push.new.self.items c.push-in-loop-level.new.self.items u c.hand_next.new.skips c.remove.new.self c.allowed-allowed-then-lane_room-eq0.result)
    (sym c.allowed-allowed-then-lane_room-eq0.ensures.same)
    (dealing_more q c.args.level.number c.args.bound c.args.among v s ds to c.loop-level.self c.loop-level.skips c.loop-level.opened c.loop-level.allowed l d c.hand_next.new.self c.hand_next.new.skips c.loop-level.invariant c.facts-in-loop-level.ensures.sized few
    c.in-Some.ensures.given c.push.new.self.items c.push-in-loop-level.new.self.items c.push.ensures.items c.push-in-loop-level.ensures.items c.remove.new.self c.allowed-allowed-then-lane_room-eq0.result
    (less_within q c.args.level.number c.args.bound c.args.among v s ds to c.loop-level.self c.loop-level.skips c.loop-level.opened c.loop-level.allowed l d c.hand_next.new.self c.hand_next.new.skips c.loop-level.invariant c.facts-in-loop-level.ensures.sized few
    c.in-Some.ensures.given c.remove.new.self c.remove.ensures.gone c.remove.ensures.others)
    (λ more.
    open_less q c.args.level.number c.args.bound c.args.among v s ds to c.loop-level.self c.loop-level.skips c.loop-level.opened c.loop-level.allowed l d c.hand_next.new.self c.hand_next.new.skips c.loop-level.invariant c.facts-in-loop-level.ensures.sized few
    c.in-Some.ensures.given (omega (arith, c.push.ensures.len, c.len-in-loop-level.ensures.value, c.if-len-bound.true)) (omega (arith, c.lane_room.ensures, c.if-lane_room-eq0.true)) c.remove.new.self c.remove.ensures.gone c.remove.ensures.others)
    (λ more. c.allowed-allowed-then-lane_room-eq0.ensures.allowed))

pub loop-level-preserved : goal.loop-level-preserved
loop-level-preserved c =
    let q = c.args.queue in
    let v = c.args.self.now in
    let s = c.args.skips.now in
    let ds = c.loop-level.run.items in
    let to = c.loop-level.to.items in
    let l = c.in-Some.offer.lane in
    let d = c.in-Some.offer.delivery in
    let few : length c.loop-level.run.items < c.args.bound = omega (arith, c.len.ensures.value, c.loop-level-test.true) in
    dealing_more q c.args.level.number c.args.bound c.args.among v s ds to c.loop-level.self c.loop-level.skips c.loop-level.opened c.loop-level.allowed l d c.hand_next.new.self c.hand_next.new.skips c.loop-level.invariant c.facts-in-loop-level.ensures.sized few
    c.in-Some.ensures.given c.push.new.self.items c.push-in-loop-level.new.self.items c.push.ensures.items c.push-in-loop-level.ensures.items c.loop-level.opened c.loop-level.allowed
    (λ m has. has)
    (λ more.
    elim c.else-len-bound.branch [
      | else-len-bound-via-then-len-bound+else-lane_room-eq0 w ↦
          open_still q c.args.level.number c.args.bound c.args.among v s ds to c.loop-level.self c.loop-level.skips c.loop-level.opened c.loop-level.allowed l d c.hand_next.new.self c.hand_next.new.skips c.loop-level.invariant c.facts-in-loop-level.ensures.sized few
          c.in-Some.ensures.given (omega (arith, c.push.ensures.len, c.len-in-loop-level.ensures.value, w.if-len-bound.true)) (omega (arith, w.lane_room.ensures, w.if-lane_room-eq0.false))
      | else-len-bound-via-else-len-bound w ↦ absurd (omega (arith, more, c.len-in-loop-level.ensures.value, w.if-len-bound.false))
    ])
    (λ more.
    allowed_still q c.args.level.number c.args.bound c.args.among v s ds to c.loop-level.self c.loop-level.skips c.loop-level.opened c.loop-level.allowed l d c.hand_next.new.self c.hand_next.new.skips c.loop-level.invariant c.facts-in-loop-level.ensures.sized few
    c.in-Some.ensures.given)
