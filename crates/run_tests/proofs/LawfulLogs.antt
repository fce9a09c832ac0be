-- The log of specs/Logs.antt is lawful, whatever the payload that the first stage forwards: by computing the test.
use Rattle.std.proofs.Common.{◌≡◌, ℕ, ◌<◌, ◌^◌, true, refl, ap, lit<}
use Rattle.std.proofs.Props.{props}
use Rattle.std.proofs.lemmas.Bool.{eq-eqb}
use Rattle.evt_types.specs.Plan.{bound_of, depth_of, flow_lanes, lanes_of, serves}
use Rattle.pipeline_laws.specs.Example.{entry_with, example_plan}
use Rattle.pipeline_laws.specs.Worked.{IsLogOf, new_event}
use Rattle.run_tests.specs.Logs.{log_with}
use Rattle.transcripts.proofs.Whole.{Lawful-steps}
use Rattle.transcripts.specs.Transcript.{accepted, out, answers, unanswered, ended, extras, sent, forwards, hand, waiting, taken, sources, kept, open_of, inside}
use Rattle.worked_examples.proofs.Sound.{StepsLawful-test}
use Rattle.worked_examples.specs.Check.{is_lawful}

-- the fact on the flow adds nothing
pub entry_is : (fits : 7 < 2 ^ 20) → new_event (record { flow = 7; priority = 128; payload = 1; flow_fits = fits }) ≡ new_event (entry_with 1)
entry_is fits =
    let is_prop : IsProp (7 < 2 ^ 20) = hlevel props in
    ap (λ (fact : 7 < 2 ^ 20). new_event (record { flow = 7; priority = 128; payload = 1; flow_fits = fact })) (is_prop fits (lit< tt))

-- the test passes, since the accepted event is the forwarded one
passes : (payload : ℕ) → is_lawful example_plan (log_with payload) ≡ true
unfolding accepted out answers unanswered ended extras sent forwards hand waiting taken sources kept open_of inside bound_of depth_of flow_lanes lanes_of serves
passes payload = rw (eq-eqb payload payload refl) refl

pub is_log : (payload : ℕ) → IsLogOf 2 2 (log_with payload)
unfolding flow_lanes lanes_of
is_log payload = record {
  plan = example_plan;
  queues_are = refl;
  lanes_are = refl;
  lawful = Lawful-steps example_plan (log_with payload) (StepsLawful-test example_plan (log_with payload) (passes payload));
}
