-- A log is lawful that passes the test, which computes.
use Rattle.std.proofs.Common.{◌≡◌, List, true, refl}
use Rattle.transcripts.proofs.Whole.{Lawful-steps}
use Rattle.transcripts.specs.Lawful.{Lawful}
use Rattle.transcripts.specs.Transcript.{accepted, out, answers, unanswered, ended, sent, forwards, hand, waiting, taken, sources, kept, open_of, inside}
use Rattle.evt_types.specs.Plan.{Plan, bound_of, depth_of, flow_lanes, lanes_of, serves}
use Rattle.evt_types.specs.declared.step.Step.{Step}
use Rattle.worked_examples.proofs.Sound.{StepsLawful-test}
use Rattle.worked_examples.specs.Check.{is_lawful}
use Rattle.worked_examples.specs.Logs.{two_workers, two_flows_one_slot}

pub lawful_by_test : (p : Plan) (T : List Step) → is_lawful p T ≡ true → Lawful p T
lawful_by_test p T passes = Lawful-steps p T (StepsLawful-test p T passes)

pub two_flows_one_slot_lawful : Lawful two_workers two_flows_one_slot
unfolding accepted out answers unanswered ended sent forwards hand waiting taken sources kept open_of inside bound_of depth_of flow_lanes lanes_of serves
two_flows_one_slot_lawful = lawful_by_test two_workers two_flows_one_slot refl
