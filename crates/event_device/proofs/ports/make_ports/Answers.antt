-- One port more is made.
use Rattle.std.proofs.Common.{◌≡◌, ◌∷◌, length, arith, rules}
use Rattle.event_device.proofs.Making.{fits_plan, made_fewer, making_more, turn_now}
use Rattle.event_device.proofs.ports.make_ports.Goals as goal

pub split-requires-clause-port : goal.split-requires-clause-port
split-requires-clause-port c =
    let left : c.loop-own.own-iterator.rest.items ≡ c.in-Some.own ∷ c.next.new.self.rest.items = search rules in
    let number : c.len-number.result ≡ length c.loop-own.ports.items = search rules in
    omega (arith, made_fewer _ _ _ _ _ _ _ _ _ c.loop-own.invariant.0 left, number, c.requires.owns.0, c.requires.limits.port_count.1)

pub make_port-requires : goal.make_port-requires
make_port-requires c =
    let left : c.loop-own.own-iterator.rest.items ≡ c.in-Some.own ∷ c.next.new.self.rest.items = search rules in
    let number : c.len-number.result ≡ length c.loop-own.ports.items = search rules in
    let t = turn_now c.args.shape.now c.args.shared.now c.args.owns.items c.loop-own.yielded c.loop-own.own-iterator.rest.items c.next.new.self.rest.items c.in-Some.own
    c.loop-own.ports.items c.loop-own.seats c.len-number.result c.requires.device c.requires.owns.0 c.requires.owns.1 c.loop-own.invariant.0 left number in
    record {
      limits = c.requires.limits;
      number = t.there;
      shared = fits_plan c.args.shape.now c.args.shared.now c.args.owns.items c.requires.device c.requires.owns.0;
      seats = (c.in_ok-rest.ensures.part, c.in_ok-rest.ensures.port);
      own = (t.depth, t.unused);
    }

pub push_reserved-requires : goal.push_reserved-requires
push_reserved-requires c =
    let left : c.loop-own.own-iterator.rest.items ≡ c.in-Some.own ∷ c.next.new.self.rest.items = search rules in
    let number : c.len-number.result ≡ length c.loop-own.ports.items = search rules in
    omega (arith, made_fewer _ _ _ _ _ _ _ _ _ c.loop-own.invariant.0 left, number, c.len-number.ensures, c.loop-own.invariant.1)

pub loop-own-preserved : goal.loop-own-preserved
loop-own-preserved c =
    let left : c.loop-own.own-iterator.rest.items ≡ c.in-Some.own ∷ c.next.new.self.rest.items = search rules in
    let number : c.len-number.result ≡ length c.loop-own.ports.items = search rules in
    let t = turn_now c.args.shape.now c.args.shared.now c.args.owns.items c.loop-own.yielded c.loop-own.own-iterator.rest.items c.next.new.self.rest.items c.in-Some.own
    c.loop-own.ports.items c.loop-own.seats c.len-number.result c.requires.device c.requires.owns.0 c.requires.owns.1 c.loop-own.invariant.0 left number in (
      making_more c.args.shape.now c.args.shared.now c.args.owns.items c.loop-own.yielded c.next.new.self.rest.items c.in-Some.own c.loop-own.own-iterator.rest.items
          c.loop-own.ports.items c.push_reserved.new.self.items c.in_ok-port.port c.loop-own.seats c.in_ok-rest.rest c.len-number.result c.loop-own.invariant.0 left number
          (c.in_ok-port.ensures _ t.lane) c.push_reserved.ensures.items c.in_ok-rest.ensures.rest,
      omega (arith, c.push_reserved.ensures.capacity, c.loop-own.invariant.1),
    )
