use Rattle.std.proofs.Common.{◌≡◌, List, length, flat_map, map, sum_by, vec_capacity, vec_len}
use Rattle.std.specs.List.{range_with_len}
use Rattle.evt_types.specs.declared.step.Step.{Step}
use Rattle.transcripts.specs.Standing.{Stands, waiting_at}
use Rattle.transcripts.specs.Transcript.{waiting}
use Rattle.parked_queue.specs.Lists.{delivery_of}
use Rattle.event_device.proofs.list_events.list_waiting.Given as goal

abbrev pub invariant-loop-queue : goal.invariant-loop-queue
invariant-loop-queue l =
    record {
      listed : (T : List Step) → Stands T l.core → l.into.items ≡ flat_map (λ q. map (delivery_of q) (waiting T q)) (range_with_len 0 l.queue);
      length : vec_len l.into ≡ sum_by (λ q. length (waiting_at l.core q)) (range_with_len 0 l.queue);
      room : vec_capacity l.into ≡ vec_capacity l.initial.into;
    }
