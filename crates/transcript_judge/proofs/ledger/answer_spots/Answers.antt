use Rattle.std.proofs.Common.{length, ap, sym, ◌∙◌, arith}
use Rattle.transcripts.specs.Standing.{answer_place}
use Rattle.transcript_judge.proofs.Walks.{mapped_more}
use Rattle.transcript_judge.proofs.ledger.answer_spots.Goals as goal

pub loop-spot-preserved : goal.loop-spot-preserved
loop-spot-preserved c =
    mapped_more (answer_place c.args.number c.args.outcome.now) c.args.spots.now.items c.loop-spot.spot-items c.loop-spot.spot-index c.spot-item.result c.answer.new.self
    (omega (arith, c.loop-spot-test.true, c.loop-spot.auto.spot-items)) (omega (arith, c.loop-spot.auto.spot-items, ap length c.deref_mut-spot-items.ensures.value))
    c.loop-spot.invariant c.spot-item.is (c.in_ok-answer.ensures ∙ ap (answer_place c.args.number c.args.outcome.now) (sym c.spot-item.is))
