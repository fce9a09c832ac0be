-- The parts of a device are made.
use Rattle.std.proofs.Common.{◌∙◌, length, ap, arith}
use Rattle.std.specs.Arc.{arc_value}
use Rattle.credit_pool.specs.declared.account.Account.{Account}
use Rattle.evt_types.specs.Plan.{Plan}
use Rattle.evt_types.proofs.FlowLanes.{lanes_are}
use Rattle.event_device.specs.Device.{Device, IsDevice}
use Rattle.event_device.specs.Prepared.{AreNewPorts}
use Rattle.event_device.proofs.Credits.{part_unused, rest_unused}
use Rattle.event_device.proofs.Devices.{all_lanes, by_nears, device_fits}
use Rattle.event_device.proofs.Sites.{count_shown}
use Rattle.event_device.proofs.start.prepare.Goals as goal

pub add_lanes-requires : goal.add_lanes-requires
add_lanes-requires c =
    let p : Plan = c.args.shape.now in
    let own = count_shown p c.ports-own_lanes.result.now c.ports-own_lanes.ensures in
    (omega arith, omega (arith, own, lanes_are p))

pub add_lanes-requires-2 : goal.add_lanes-requires-2
add_lanes-requires-2 c =
    let p : Plan = c.args.shape.now in
    let own = count_shown p c.ports-own_lanes.result.now c.ports-own_lanes.ensures in
    (omega (arith, own, lanes_are p, c.lanes-all_lanes.ensures.value), omega (arith, c.lanes-all_lanes.ensures.value))

pub make_ports-requires : goal.make_ports-requires
make_ports-requires c =
    let p : Plan = c.args.shape.now in
    let own = count_shown p c.ports-own_lanes.result.now c.ports-own_lanes.ensures in
    let all = all_lanes p c.in_ok-owns.owns.items c.in_ok-ends.ends.items c.in_ok-nears.nears.items c.add_lanes.new.nears.items c.add_lanes-2.new.nears.items
    (length c.ports-own_lanes.result.now) c.lanes-all_lanes.result own c.lanes-all_lanes.ensures.value c.in_ok-nears.ensures.items c.in_ok-owns.ensures c.in_ok-ends.ensures in
    record {
      limits = c.limit.ensures.within;
      device = device_fits p c.in_ok-shared.shared c.in_ok-owns.owns.items c.in_ok-ends.ends.items c.add_lanes-2.new.nears.items all
          (c.in_ok-shared.ensures.pool ∙ c.from.ensures ∙ c.limit.ensures.value) c.in_ok-shared.ensures.claims;
      owns = (all.own_count, all.own_unused);
      seats = c.in_ok-shared.ensures.seats;
    }

pub returns : goal.returns
returns c =
    let p : Plan = c.args.shape.now in
    let own = count_shown p c.ports-own_lanes.result.now c.ports-own_lanes.ensures in
    let all = all_lanes p c.in_ok-owns.owns.items c.in_ok-ends.ends.items c.in_ok-nears.nears.items c.add_lanes.new.nears.items c.add_lanes-2.new.nears.items
    (length c.ports-own_lanes.result.now) c.lanes-all_lanes.result own c.lanes-all_lanes.ensures.value c.in_ok-nears.ensures.items c.in_ok-owns.ensures c.in_ok-ends.ensures in
    let fits = device_fits p c.in_ok-shared.shared c.in_ok-owns.owns.items c.in_ok-ends.ends.items c.add_lanes-2.new.nears.items all
    (c.in_ok-shared.ensures.pool ∙ c.from.ensures ∙ c.limit.ensures.value) c.in_ok-shared.ensures.claims in
    let Ports : Device → Type 0 = λ d. AreNewPorts d (length p.ports) c.in_ok-ports.ports.items in
    let left = c.in_ok-ports.ensures.seats in
    record {
      fits = by_nears IsDevice p c.in_ok-shared.shared c.in_ok-owns.owns.items c.in_ok-ends.ends.items c.add_lanes-2.new.nears.items all c.in_ok-shared.ensures.claims fits;
      ports = by_nears Ports p c.in_ok-shared.shared c.in_ok-owns.owns.items c.in_ok-ends.ends.items c.add_lanes-2.new.nears.items all c.in_ok-shared.ensures.claims c.in_ok-ports.ensures.ports;
      pool = c.in_ok-pool.ensures.cases;
      seat = part_unused (arc_value c.in_ok-shared.shared.pool) c.deref.result.now c.in_ok-ports.seats.credit c.in-Ok.seat c.deref.ensures c.in-Ok.ensures.second;
      part = ap (λ (v : Account). v.parts) c.in-Ok.ensures.second.1;
      nears = all.unused;
      seats =
          record {
            unused_credit = rest_unused (arc_value c.in_ok-shared.shared.pool) c.deref.result.now c.in_ok-ports.seats.credit c.in-Ok.credit c.deref.ensures left.unused_credit c.in-Ok.ensures.first;
            unused_claim = left.unused_claim;
            credits_are = omega (arith, left.credits_are, ap (λ (v : Account). v.parts) c.in-Ok.ensures.first.1);
            claims_are = left.claims_are;
          };
    }
