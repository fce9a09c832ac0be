use Rattle.std.proofs.Common.{◌++◌, ◌∙◌, ap, arith, length-set, map}
use Rattle.std.proofs.lemmas.List.{take_all}
use Rattle.evt_types.specs.Event.{pair_of}
use Rattle.lists.specs.Windows.{window}
use Rattle.lane_rings.proofs.HeldPairs.{one_noted}
use Rattle.lane_rings.proofs.held_pairs.write.Goals as goal

pub loop-delivery-preserved : goal.loop-delivery-preserved
loop-delivery-preserved c =
    let loop = c.loop-delivery.invariant in
    let at = c.place_behind-last.ensures in
    record {
      places = length-set c.loop-delivery.places _ _ ∙ loop.places;
      count = omega (arith, loop.count);
      written = rw (at, c.queue.ensures, c.number.ensures)
          (one_noted c.args.first c.loop-delivery.count c.loop-delivery.delivery-index c.loop-delivery.places (window c.args.first c.args.count c.args.places.now) c.args.deliveries.now c.delivery-item.result
          (omega (arith, c.requires.first, loop.places))
          (omega (arith, c.requires.room, loop.places, loop.count, c.loop-delivery-test.true))
          c.loop-delivery-test.true
          c.delivery-item.is
          loop.written);
    }

pub returns-clause-written : goal.returns-clause-written
returns-clause-written c =
    c.loop-delivery.invariant.written
    ∙ ap (λ ds. window c.args.first c.args.count c.args.places.now ++ map pair_of ds) (take_all c.loop-delivery.delivery-index c.args.deliveries.now (omega (arith, c.loop-delivery-test.false, c.loop-delivery.auto.delivery-index-end)))
