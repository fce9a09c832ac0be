use Rattle.std.proofs.Common.{arith}
use Rattle.history_judge.proofs.Answering.{places_noted}
use Rattle.history_judge.proofs.InOrder.{entry_at, port_known}
use Rattle.history_judge.proofs.answers.answer_places.Goals as goal

pub note_place-requires : goal.note_place-requires
note_place-requires c =
    omega (
      arith,
      port_known c.args.ports c.args.history.now c.loop-at.at c.index-history-at.result c.requires
          (entry_at c.args.history.now c.loop-at.at c.index-history-at.result c.loop-at-test.true c.index-history-at.is),
      c.loop-at.invariant.sized,
    )

pub loop-at-preserved : goal.loop-at-preserved
loop-at-preserved c =
    let at = entry_at c.args.history.now c.loop-at.at c.index-history-at.result c.loop-at-test.true c.index-history-at.is in
    places_noted c.args.ports c.args.history.now c.loop-at.at c.index-history-at.result c.loop-at.places.items c.note_place.new.places.items at
    (port_known c.args.ports c.args.history.now c.loop-at.at c.index-history-at.result c.requires at) c.loop-at.invariant c.in_ok-note_place.ensures
