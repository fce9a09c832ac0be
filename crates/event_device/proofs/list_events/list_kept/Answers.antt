use Rattle.std.proofs.Common.{◌≡◌, ◌<◌, ◌++◌, ap, sym, ◌∙◌, arith, length}
use Rattle.transcripts.specs.Standing.{places_at}
use Rattle.transcripts.specs.Transcript.{kept_events}
use Rattle.lists.proofs.Ranges.{flat_map_range_more}
use Rattle.event_device.proofs.Rooms.{sum_more, sum_within}
use Rattle.event_device.proofs.list_events.list_kept.Goals as goal

pub list_kept-requires-clause-room : goal.list_kept-requires-clause-room
list_kept-requires-clause-room c =
    let v = c.args.core.now in
    let q = c.loop-queue.queue in
    let count : length c.queues-queue-end.result.now ≡ length v.shape.queues = cc in
    let there : q < length v.shape.queues = omega arith in
    let within = sum_within (λ r. length (places_at v r)) q (length v.shape.queues) there in
    let more = sum_more (λ r. length (places_at v r)) q in
    omega (arith, c.loop-queue.invariant.length, c.loop-queue.invariant.room, c.requires.room)

pub loop-queue-preserved : goal.loop-queue-preserved
loop-queue-preserved c =
    let v = c.args.core.now in
    let q = c.loop-queue.queue in
    let more = sum_more (λ r. length (places_at v r)) q in
    record {
      listed =
          λ T stands.
          c.list_kept.ensures.model T stands
          ∙ (ap (λ xs. xs ++ kept_events T q) (c.loop-queue.invariant.listed T stands)
          ∙ sym (flat_map_range_more (λ r. kept_events T r) q));
      length = omega (arith, c.list_kept.ensures.few, c.loop-queue.invariant.length);
      room = c.list_kept.ensures.room ∙ c.loop-queue.invariant.room;
    }
