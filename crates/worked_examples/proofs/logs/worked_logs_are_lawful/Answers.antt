use Rattle.std.proofs.Common.{refl}
use Rattle.evt_types.specs.Plan.{bound_of, depth_of, flow_lanes, lanes_by_slot, lanes_of, serves}
use Rattle.transcripts.specs.Transcript.{accepted, out, answers, unanswered, ended, sent, forwards, extras, hand, waiting, taken, sources, kept, open_of, inside}
use Rattle.worked_examples.specs.Logs.{one_worker, two_workers, two_stages, atomic_stages, both_stages, flow_workers}
use Rattle.worked_examples.specs.Logs.{first_event, one_flow_two_ports, second_forwarded_first, first_released, mixed_levels, full_ring, turned_away, flow_lanes_given, two_added, added_waits}
use Rattle.worked_examples.proofs.LogsLawful.{lawful_by_test, two_flows_one_slot_lawful}
use Rattle.worked_examples.proofs.logs.worked_logs_are_lawful.Goals as goal

pub returns : goal.returns
unfolding accepted out answers unanswered ended sent forwards extras hand waiting taken sources kept open_of inside bound_of depth_of flow_lanes lanes_by_slot lanes_of serves
returns c =
    record {
      first_event = lawful_by_test one_worker first_event refl;
      one_flow_two_ports = lawful_by_test two_workers one_flow_two_ports refl;
      two_flows_one_slot = two_flows_one_slot_lawful;
      second_forwarded_first = lawful_by_test two_stages second_forwarded_first refl;
      first_released = lawful_by_test two_stages first_released refl;
      mixed_levels = lawful_by_test two_stages mixed_levels refl;
      full_ring = lawful_by_test one_worker full_ring refl;
      turned_away = lawful_by_test atomic_stages turned_away refl;
      flow_lanes_given = lawful_by_test flow_workers flow_lanes_given refl;
      two_added = lawful_by_test both_stages two_added refl;
      added_waits = lawful_by_test two_stages added_waits refl;
    }
