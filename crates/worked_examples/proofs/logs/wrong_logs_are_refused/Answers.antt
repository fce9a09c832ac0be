use Rattle.worked_examples.proofs.Refused.{given_twice_refused, overtaken_refused, split_slot_refused, accepted_early_refused, kept_for_good_refused, accepted_twice_refused, new_after_shut_refused, turned_before_shut_refused, shut_twice_refused, not_linked_refused, answered_early_refused, beyond_depth_refused, exchanged_refused, accepted_backwards_refused, no_such_queue_refused, given_before_refused, turned_nowhere_refused, flow_lane_brings_refused, given_past_flow_lane_refused, given_to_other_slot_refused, added_early_refused, added_at_once_refused, ended_by_added_refused, added_too_many_refused, added_to_none_refused, added_kept_for_good_refused}
use Rattle.worked_examples.proofs.logs.wrong_logs_are_refused.Goals as goal

pub returns : goal.returns
returns c =
    record {
      given_twice = given_twice_refused;
      overtaken = overtaken_refused;
      split_slot = split_slot_refused;
      accepted_early = accepted_early_refused;
      kept_for_good = kept_for_good_refused;
      accepted_twice = accepted_twice_refused;
      new_after_shut = new_after_shut_refused;
      turned_before_shut = turned_before_shut_refused;
      shut_twice = shut_twice_refused;
      not_linked = not_linked_refused;
      answered_early = answered_early_refused;
      beyond_depth = beyond_depth_refused;
      exchanged = exchanged_refused;
      accepted_backwards = accepted_backwards_refused;
      no_such_queue = no_such_queue_refused;
      given_before = given_before_refused;
      turned_nowhere = turned_nowhere_refused;
      flow_lane_brings = flow_lane_brings_refused;
      given_past_flow_lane = given_past_flow_lane_refused;
      given_to_other_slot = given_to_other_slot_refused;
      added_early = added_early_refused;
      added_at_once = added_at_once_refused;
      ended_by_added = ended_by_added_refused;
      added_too_many = added_too_many_refused;
      added_to_none = added_to_none_refused;
      added_kept_for_good = added_kept_for_good_refused;
    }
