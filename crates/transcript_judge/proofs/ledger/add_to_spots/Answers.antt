use Rattle.std.proofs.Common.{length, ap, sym, ◌∙◌, arith}
use Rattle.transcripts.specs.Standing.{add_to_place}
use Rattle.transcript_judge.proofs.Walks.{mapped_more}
use Rattle.transcript_judge.proofs.ledger.add_to_spots.Goals as goal

pub loop-spot-preserved : goal.loop-spot-preserved
loop-spot-preserved c =
    mapped_more (add_to_place c.args.number c.args.event.now) c.args.spots.now.items c.loop-spot.spot-items c.loop-spot.spot-index c.spot-item.result c.add.new.self
    (omega (arith, c.loop-spot-test.true, c.loop-spot.auto.spot-items)) (omega (arith, c.loop-spot.auto.spot-items, ap length c.deref_mut-spot-items.ensures.value))
    c.loop-spot.invariant c.spot-item.is (c.in_ok-add.ensures ∙ ap (add_to_place c.args.number c.args.event.now) (sym c.spot-item.is))
