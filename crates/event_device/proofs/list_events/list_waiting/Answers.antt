use Rattle.std.proofs.Common.{◌≡◌, ◌++◌, ap, sym, ◌∙◌, arith, length, map}
use Rattle.transcripts.specs.Standing.{waiting_at}
use Rattle.transcripts.specs.Transcript.{waiting}
use Rattle.lists.proofs.Ranges.{flat_map_range_more}
use Rattle.parked_queue.specs.Lists.{delivery_of}
use Rattle.event_device.proofs.Queues.{waiting_length}
use Rattle.event_device.proofs.Rooms.{sum_more, sum_within}
use Rattle.event_device.proofs.list_events.list_waiting.Goals as goal

pub list_waiting-requires-clause-room : goal.list_waiting-requires-clause-room
list_waiting-requires-clause-room c =
    let v = c.args.core.now in
    let count : length c.queues-queue-end.result.now ≡ length v.shape.queues = cc in
    omega (arith, sum_within (λ q. length (waiting_at v q)) c.loop-queue.queue (length v.shape.queues) (omega arith))

pub loop-queue-preserved : goal.loop-queue-preserved
loop-queue-preserved c =
    let v = c.args.core.now in
    let q = c.loop-queue.queue in
    record {
      listed =
          λ T stands.
          c.list_waiting.ensures.model T stands
          ∙ (ap (λ xs. xs ++ map (delivery_of q) (waiting T q)) (c.loop-queue.invariant.listed T stands)
          ∙ sym (flat_map_range_more (λ r. map (delivery_of r) (waiting T r)) q));
      length = omega (arith, sum_more (λ r. length (waiting_at v r)) q, waiting_length c.loop-queue.into.items c.list_waiting.new.into.items q (waiting_at v q) c.list_waiting.ensures.listed);
      room = c.list_waiting.ensures.room ∙ c.loop-queue.invariant.room;
    }
