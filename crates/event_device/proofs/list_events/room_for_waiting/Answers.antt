use Rattle.std.proofs.Common.{◌≤◌, arith, length, sum_by, vec_capacity}
use Rattle.std.proofs.lemmas.Result.{IfOk-weaker}
use Rattle.evt_types.specs.Plan.{queues}
use Rattle.event_device.proofs.Rooms.{lengths_within}
use Rattle.transcripts.specs.Standing.{waiting_at}
use Rattle.event_device.proofs.list_events.room_for_waiting.Goals as goal

pub returns-clause-room : goal.returns-clause-room
returns-clause-room c =
    let v = c.args.core.now in
    IfOk-weaker c.with_capacity.result (λ w. c.inside.result ≤ vec_capacity w) (λ w. sum_by (λ q. length (waiting_at v q)) (queues v.shape) ≤ vec_capacity w)
    (λ w fits. omega (arith, lengths_within v.waiting (length v.shape.queues), c.inside.ensures.value))
    c.with_capacity.ensures.capacity
