use Rattle.std.proofs.Common.{arith, length}
use Rattle.std.proofs.lemmas.Grind.{common_steps}
use Rattle.event_device.proofs.Rooms.{sum_more}
use Rattle.transcripts.specs.Standing.{places_at}
use Rattle.event_device.proofs.list_events.room_for_kept.Goals as goal

pub loop-queue-preserved : goal.loop-queue-preserved
loop-queue-preserved c =
    let more = sum_more (λ q. length (places_at c.args.core.now q)) c.loop-queue.queue in
    grind (arith, common_steps)
