-- Small worlds: how the log of two flows in one slot came about, another order of moves, an event that is added beside a held one, and
-- moves that can't be made.
use Rattle.std.specs.Prelude.{List, [], ◌∷◌}
use Rattle.std.proofs.Math.Dec.{lit<}
use Rattle.evt_types.specs.Event.{release_event}
use Rattle.evt_types.specs.declared.event.Event.{Event}
use Rattle.evt_types.specs.declared.event.Reply.{Reply}
use Rattle.evt_types.specs.declared.step.Outcome.TheVariants.{Released}
use Rattle.evt_types.specs.declared.step.Source.TheVariants.{Of}
use Rattle.evt_types.specs.declared.step.Step.{Step}
use Rattle.evt_types.specs.declared.step.Step.TheVariants.{Accept, Give, Done, More}
use Rattle.worked_examples.specs.Logs.{added, brought, entry, new_event, two_flows_one_slot}
use Rattle.world_laws.specs.World.{World, Move, Submits, Takes, Gives, Receives, at_lane}

abbrev pub reply : Event → Reply
reply e = record { event = e }

-- port 0 submits a NEW, and the scheduler takes it
abbrev pub brings : Event → List Move → List Move
brings e later = Submits 0 (reply e) ∷ Takes 0 (entry e ∷ []) ∷ later

-- port 1 releases its oldest event, and the scheduler takes that
abbrev pub releases : List Move → List Move
releases later = Submits 1 (reply release_event) ∷ Takes 1 (Done 1 Released ∷ []) ∷ later

-- ---- a world that is found

-- a NEW that comes too late to be taken
abbrev pub late_event : Event
late_event = new_event 5 (lit< tt) 128 5

-- what ports 0 and 1 submitted
abbrev pub by_port_0 : List Reply
by_port_0 =
    reply (new_event 3 (lit< tt) 128 1) ∷ reply (new_event 7 (lit< tt) 128 2) ∷ reply (new_event 5 (lit< tt) 128 3) ∷ reply (new_event 7 (lit< tt) 128 4)
    ∷ reply late_event ∷ []

abbrev pub by_port_1 : List Reply
by_port_1 = reply release_event ∷ reply release_event ∷ reply release_event ∷ []

-- After the log of two flows in one slot: port 1 has received its three events, and port 2 not yet its one. Of port 0's NEWs one isn't
-- taken, and of port 1's releases one.
abbrev pub slot_world : World
slot_world = record { log = two_flows_one_slot; received = at_lane 1 3 (λ l. 0); submitted = at_lane 0 by_port_0 (at_lane 1 by_port_1 (λ l. [])) }

-- the moves by which it came about, in the order of the log
abbrev pub slot_moves : List Move
slot_moves =
    brings (new_event 3 (lit< tt) 128 1) (brings (new_event 7 (lit< tt) 128 2)
    (Gives 1 0 0 ∷ Receives 1 ∷ Gives 1 0 1 ∷ Receives 1 ∷ releases (releases
    (brings (new_event 5 (lit< tt) 128 3) (brings (new_event 7 (lit< tt) 128 4)
    (Gives 1 0 2 ∷ Receives 1 ∷ Gives 2 0 3 ∷ Submits 0 (reply late_event) ∷ Submits 1 (reply release_event) ∷ []))))))

-- ---- another order

-- Both NEWs are submitted before the first is taken, and port 1's release before the second is.
abbrev pub early_log : List Step
early_log = entry (brought 1) ∷ Give 1 0 0 ∷ entry (brought 2) ∷ Done 1 Released ∷ []

abbrev pub early_world : World
early_world =
    record {
      log = early_log;
      received = at_lane 1 1 (λ l. 0);
      submitted = at_lane 1 (reply release_event ∷ []) (at_lane 0 (reply (brought 1) ∷ reply (brought 2) ∷ []) (λ l. []));
    }

abbrev pub early_moves : List Move
early_moves =
    Submits 0 (reply (brought 1)) ∷ Submits 0 (reply (brought 2)) ∷ Takes 0 (entry (brought 1) ∷ []) ∷ Gives 1 0 0 ∷ Receives 1 ∷ Submits 1 (reply release_event)
    ∷ Takes 0 (entry (brought 2) ∷ []) ∷ Takes 1 (Done 1 Released ∷ []) ∷ []

-- ---- an event that is added

-- Beside the event that port 1 holds of the atomic queue one is added to the next stage, which is accepted at once.
abbrev pub added_log : List Step
added_log = entry (brought 1) ∷ Give 1 0 0 ∷ More 1 (added 10) ∷ Accept 1 (added 10) (Of 0 0) ∷ []

abbrev pub added_world : World
added_world =
    record { log = added_log; received = at_lane 1 1 (λ l. 0); submitted = at_lane 1 (reply (added 10) ∷ []) (at_lane 0 (reply (brought 1) ∷ []) (λ l. [])) }

abbrev pub added_moves : List Move
added_moves =
    brings (brought 1) (Gives 1 0 0 ∷ Receives 1 ∷ Submits 1 (reply (added 10)) ∷ Takes 1 (More 1 (added 10) ∷ Accept 1 (added 10) (Of 0 0) ∷ []) ∷ [])

-- ---- moves that can't be made

-- a lane answers what it was given and hasn't received
abbrev pub answers_unreceived : List Move
answers_unreceived = brings (brought 1) (Gives 1 0 0 ∷ Submits 1 (reply release_event) ∷ [])

-- an event is added beside one that the lane was given and hasn't received
abbrev pub adds_unreceived : List Move
adds_unreceived = brings (brought 1) (Gives 1 0 0 ∷ Submits 1 (reply (added 10)) ∷ [])

-- a fifth event is added beside one
abbrev pub adds_too_many : List Move
adds_too_many =
    brings (brought 1) (Gives 1 0 0 ∷ Receives 1 ∷ Submits 1 (reply (added 10)) ∷ Submits 1 (reply (added 20)) ∷ Submits 1 (reply (added 30))
    ∷ Submits 1 (reply (added 40)) ∷ Submits 1 (reply (added 50)) ∷ [])

-- more is received than was given
abbrev pub receives_twice : List Move
receives_twice = brings (brought 1) (Gives 1 0 0 ∷ Receives 1 ∷ Receives 1 ∷ [])

-- a reply is taken that nobody submitted
abbrev pub takes_unsubmitted : List Move
takes_unsubmitted = Takes 0 (entry (brought 1) ∷ []) ∷ []
