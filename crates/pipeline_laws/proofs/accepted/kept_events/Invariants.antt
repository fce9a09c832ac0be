use Rattle.std.proofs.Common.{◌≡◌, length, map, take}
use Rattle.pipeline_laws.proofs.AcceptedEvents.{accept_of}
use Rattle.pipeline_laws.specs.Past.{HoldAccepted}
use Rattle.pipeline_laws.proofs.accepted.kept_events.Given as goal

abbrev pub invariant-loop-queue : goal.invariant-loop-queue
invariant-loop-queue l =
    record {
      count : length l.lists.items ≡ l.queues;
      hold : HoldAccepted (map accept_of (take l.queue-index l.queue-items)) l.lists.items;
    }
