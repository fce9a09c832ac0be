use Rattle.std.specs.Prelude.{[], ◌∷◌}
use Rattle.std.proofs.Common.{refl}
use Rattle.evt_types.specs.Plan.{bound_of, depth_of, flow_lanes, lanes_by_slot, lanes_of, serves}
use Rattle.evt_types.specs.declared.step.Source.TheVariants.{Of}
use Rattle.evt_types.specs.declared.step.Step.TheVariants.{Accept}
use Rattle.transcripts.specs.Transcript.{accepted, out, answers, unanswered, ended, sent, forwards, extras, hand, waiting, taken, sources, kept, open_of, inside}
use Rattle.worked_examples.proofs.LogsLawful.{lawful_by_test}
use Rattle.worked_examples.proofs.Refused.{kept_for_good_refused}
use Rattle.worked_examples.specs.Logs.{first_event, kept_for_good, one_worker, passed_on, second_forwarded_first, two_stages}
use Rattle.transcript_judge.proofs.Tested.{running_by_test}
use Rattle.transcript_judge.proofs.rows.unbroken_rows.Goals as goal

pub returns : goal.returns
unfolding accepted out answers unanswered ended sent forwards extras hand waiting taken sources kept open_of inside bound_of depth_of flow_lanes lanes_by_slot lanes_of serves
returns c =
    record {
      first_event = lawful_by_test one_worker first_event refl;
      second_forwarded_first = lawful_by_test two_stages second_forwarded_first refl;
      kept_for_good = running_by_test two_stages kept_for_good (Accept 1 (passed_on 20) (Of 0 1) ∷ []) refl kept_for_good_refused;
    }
