use Rattle.std.proofs.Common.{◌≡◌, length, sum_by}
use Rattle.std.specs.List.{range_with_len}
use Rattle.transcripts.specs.Standing.{places_at}
use Rattle.event_device.proofs.list_events.room_for_kept.Given as goal

abbrev pub invariant-loop-queue : goal.invariant-loop-queue
invariant-loop-queue l = l.places ≡ sum_by (λ q. length (places_at l.core q)) (range_with_len 0 l.queue)
