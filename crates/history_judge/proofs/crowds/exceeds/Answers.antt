use Rattle.std.proofs.Common.{◌≡◌, arith}
use Rattle.history_judge.proofs.Crowded.{held_more, known_more, past_at, sum_last}
use Rattle.history_judge.specs.Crowds.{held_by, past}
use Rattle.history_judge.specs.Holds.{row, rows}
use Rattle.history_judge.proofs.crowds.exceeds.Goals as goal

pub returns-then-held-room-clause-value : goal.returns-then-held-room-clause-value
returns-then-held-room-clause-value c =
    held_more c.args.bound c.loop-port.room c.loop-port.port c.args.seen.now c.in-Got.field-0 c.args.got.now c.args.times.now c.in-Got.is (omega (arith, c.loop-port-test.true)) c.loop-port.invariant.1
    (omega (arith, begun, c.saturating_sub-held.ensures, c.if-held-room.true))
  where
    begun : c.count_past-past.result ≡ past (row (rows c.args.times.now) c.loop-port.port) c.args.seen.now.ended
    begun =
        past_at c.args.times.now c.args.seen.now.ended c.loop-port.port c.count_past-past.result c.index-times-port.result c.deref.result.now (omega (arith, c.loop-port-test.true, c.requires.ports))
        c.index-times-port.is c.deref.ensures.value c.count_past-past.ensures

pub loop-port-preserved : goal.loop-port-preserved
loop-port-preserved c = (
  known_more c.args.times.now c.args.seen.now.ended c.loop-port.port c.count_past-past.result c.loop-port.begun.items (omega (arith, c.loop-port-test.true, c.requires.ports)) c.loop-port.invariant.0 begun,
  omega (
    arith,
    c.loop-port.invariant.1,
    c.if-held-room.false,
    begun,
    c.saturating_sub-held.ensures,
    sum_last (held_by c.args.got.now c.args.times.now c.args.seen.now.ended) c.loop-port.port,
  ),
)
  where
    begun : c.count_past-past.result ≡ past (row (rows c.args.times.now) c.loop-port.port) c.args.seen.now.ended
    begun =
        past_at c.args.times.now c.args.seen.now.ended c.loop-port.port c.count_past-past.result c.index-times-port.result c.deref.result.now (omega (arith, c.loop-port-test.true, c.requires.ports))
        c.index-times-port.is c.deref.ensures.value c.count_past-past.ensures
