use Rattle.std.proofs.Common.{length-set, ◌∙◌, arith}
use Rattle.event_ports.proofs.Rings.{one_noted}
use Rattle.event_ports.proofs.held_ring.write.Goals as goal

pub loop-delivery-preserved : goal.loop-delivery-preserved
loop-delivery-preserved c =
    let loop = c.loop-delivery.invariant in
    record {
      places = length-set c.loop-delivery.places _ _ ∙ loop.places;
      len = omega (arith, loop.len);
      written = rw (c.queue.ensures, c.number.ensures)
          (one_noted c.args.first c.loop-delivery.len c.loop-delivery.delivery-index c.args.lane c.loop-delivery.places c.args.deliveries.now c.delivery-item.result loop.places c.requires.places.1
          (omega (arith, loop.len, c.requires.room, c.loop-delivery-test.true)) c.loop-delivery-test.true c.delivery-item.is
          ∙ loop.written);
    }
