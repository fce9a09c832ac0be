use Rattle.std.proofs.Common.{◌≡◌, length, take}
use Rattle.pipeline_laws.specs.Past.{HoldAccepted}
use Rattle.pipeline_laws.proofs.accepted.accepted_events.Given as goal

abbrev pub invariant-loop-step : goal.invariant-loop-step
invariant-loop-step l =
    record {
      count : length l.lists.items ≡ l.queues;
      hold : HoldAccepted (take l.step-index l.log) l.lists.items;
    }
