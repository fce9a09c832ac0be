use Rattle.std.proofs.Common.{Some, ◌∷◌, ◌++◌, [], ap, arith, length, sym, ◌∙◌}
use Rattle.std.proofs.lemmas.Iterator.Adapters.{YieldsList-from_vec}
use Rattle.std.proofs.lemmas.Iterator.Consumers.{YieldsList-turn}
use Rattle.std.proofs.lemmas.List.{length-map, map-append}
use Rattle.event_device.proofs.running.put_all.Goals as goal

pub loop-port-init : goal.loop-port-init
loop-port-init c = record { placed = c.requires.empty; room = omega (arith, c.requires.room, c.args.ports.ok.0) }

pub push_reserved-requires : goal.push_reserved-requires
push_reserved-requires c =
    let turn =
    YieldsList-turn (YieldsList-from_vec c.args.ports.items (cc) (cc (c.args.ports.ok.0)))
    c.loop-port.yielded c.loop-port.port-iterator c.loop-port.yielded_by c.next.result c.next.new.self c.in-Some.port c.in-Some.is c.next.ensures.steps in
    omega (arith, turn.0, ap length c.loop-port.invariant.placed, length-map c.loop-port.yielded Some, c.loop-port.invariant.room, c.loop-port.homes.ok.0)

pub loop-port-preserved : goal.loop-port-preserved
loop-port-preserved c = record {
  placed = c.push_reserved.ensures.items
      ∙ (ap (λ xs. xs ++ Some c.in-Some.port ∷ []) c.loop-port.invariant.placed ∙ sym (map-append Some c.loop-port.yielded (c.in-Some.port ∷ [])));
  room = omega (arith, c.loop-port.invariant.room, c.push_reserved.ensures.capacity);
}
