use Rattle.std.proofs.Common.{◌≡◌, ◌≤◌, ◌*◌, List, length, flat_map, sum_by, vec_capacity, vec_len}
use Rattle.std.specs.List.{range_with_len}
use Rattle.evt_types.specs.declared.event.TheConstants.{MAX_FORWARDS}
use Rattle.evt_types.specs.declared.step.Step.{Step}
use Rattle.transcripts.specs.Standing.{Stands, places_at}
use Rattle.transcripts.specs.Transcript.{kept_events}
use Rattle.event_device.proofs.list_events.list_kept.Given as goal

abbrev pub invariant-loop-queue : goal.invariant-loop-queue
invariant-loop-queue l =
    record {
      listed : (T : List Step) → Stands T l.core → l.into.items ≡ flat_map (λ q. kept_events T q) (range_with_len 0 l.queue);
      length : vec_len l.into ≤ MAX_FORWARDS * sum_by (λ q. length (places_at l.core q)) (range_with_len 0 l.queue);
      room : vec_capacity l.into ≡ vec_capacity l.initial.into;
    }
