use Rattle.std.proofs.Common.{◌≡◌, ◌<◌, ℕ, None}
use Rattle.event_ports.specs.Holds.{Kept, stint_in}
use Rattle.event_ports.specs.Flows.{hands_of, flow_site}
use Rattle.event_ports.proofs.flows.FlowLanes.into_seat.Given as goal

abbrev pub invariant-loop-lane : goal.invariant-loop-lane
invariant-loop-lane l =
    (flow_site l.self ≡ flow_site l.initial.self) × Kept (hands_of l.initial.self) (hands_of l.self) × ((j : ℕ) → j < l.lane → stint_in (hands_of l.self) j ≡ None)
