use Rattle.std.proofs.Common.{◌∙◌, IsSome, ap, length, arith}
use Rattle.std.specs.Vec.Iter.{drain_items}
use Rattle.std.proofs.lemmas.List.{length_push}
use Rattle.std.proofs.lemmas.List.Elements.{All-rest}
use Rattle.event_device.proofs.Stopping.{one_taken}
use Rattle.event_device.proofs.halt.gather.Goals as goal

pub loop-home-preserved : goal.loop-home-preserved
loop-home-preserved c =
    let before = c.loop-home.invariant in
    let left = drain_items c.loop-home.home-iterator in
    let rest = drain_items c.next.new.self in
    let first = c.in-Some.ensures.steps.0 in
    let step = c.in-Some.ensures.steps.2 in
    record {
      can = tt;
      finite = tt;
      keeps = (step.0 ∙ before.keeps.0, step.1 ∙ before.keeps.1, step.2 ∙ before.keeps.2);
      taken = one_taken c.loop-home.ports.items _ c.in-Some-home.port c.in-Some.home left rest _ c.push_reserved.ensures.items c.in-Some-home.is first before.taken;
      home = All-rest (λ home. IsSome home) c.in-Some.home rest left first before.home;
      room = omega (arith, before.room, ap length first, ap length c.push_reserved.ensures.items, length_push c.loop-home.ports.items c.in-Some-home.port, c.push_reserved.ensures.capacity);
    }
