-- A worked run: two events of one flow through two stages, of which the first adds 1.
use Rattle.std.specs.Prelude.{ℕ, false, List, [], ◌∷◌}
use Rattle.std.proofs.Common.{lit<}
use Rattle.evt_types.specs.Event.{forwarded_event}
use Rattle.evt_types.specs.Plan.{Plan, PortPlan}
use Rattle.evt_types.specs.declared.draft.QueueDraft.{QueueDraft}
use Rattle.evt_types.specs.declared.draft.Serving.TheVariants.{Ports}
use Rattle.evt_types.specs.declared.event.Event.{Event}
use Rattle.evt_types.specs.declared.event.Kind.TheVariants.{Atomic, Parallel}
use Rattle.evt_types.specs.declared.step.Outcome.TheVariants.{Forwarded, Released}
use Rattle.evt_types.specs.declared.step.Source.TheVariants.{New, Of}
use Rattle.evt_types.specs.declared.step.Step.{Step}
use Rattle.evt_types.specs.declared.step.Step.TheVariants.{Accept, Give, Done}
use Rattle.pipeline_laws.specs.Worked.{new_event}
use Rattle.pipeline_laws.specs.declared.stage.Action.{Action}
use Rattle.pipeline_laws.specs.declared.stage.Action.TheVariants.{Pass, Add}
use Rattle.pipeline_laws.specs.declared.stage.Entry.{Entry}

-- an atomic queue before a parallel one; port 0 brings events in, port 1 serves both queues
abbrev pub example_queues : List QueueDraft
example_queues =
    record { kind = Atomic; priority = 128; slots = 4; order = 0; single = false }
    ∷ record { kind = Parallel; priority = 128; slots = 0; order = 0; single = false } ∷ []

abbrev pub port_with : List ℕ → PortPlan
port_with links = record { threshold = 4; depth = 4; replies = 4; implicit = false; links = links }

abbrev pub example_plan : Plan
example_plan =
    record { limit = 4; quantum = 2; sweep = 8; serving = Ports; queues = example_queues; ports = port_with [] ∷ port_with (0 ∷ 1 ∷ []) ∷ [] }

abbrev pub example_actions : List Action
example_actions = Add 1 ∷ Pass ∷ []

-- an event of flow 7 and level 2
abbrev pub entry_with : ℕ → Entry
entry_with payload = record { flow = 7; priority = 128; payload = payload; flow_fits = lit< tt }

abbrev pub example_trace : List Entry
example_trace = entry_with 1 ∷ entry_with 4 ∷ []

-- what the first stage forwards an event of the trace as
abbrev pub sum_of : ℕ → ℕ → Event
sum_of payload more = forwarded_event (new_event (entry_with payload)) 1 more

abbrev pub example_log : List Step
example_log =
    Accept 0 (new_event (entry_with 1)) (New 0) ∷ Accept 0 (new_event (entry_with 4)) (New 0) ∷ Give 1 0 0 ∷ Give 1 0 1 ∷ Done 1 (Forwarded (sum_of 1 2))
    ∷ Accept 1 (sum_of 1 2) (Of 0 0) ∷ Give 1 1 0 ∷ Done 1 (Forwarded (sum_of 4 5)) ∷ Accept 1 (sum_of 4 5) (Of 0 1) ∷ Give 1 1 1 ∷ Done 1 Released
    ∷ Done 1 Released ∷ []
