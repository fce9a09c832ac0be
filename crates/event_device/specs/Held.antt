-- What ports hold, as the report lists it.
use Rattle.std.specs.Prelude.{ℕ, List, map}
use Rattle.event_answers.specs.declared.report.Held.{Held}
use Rattle.event_ports.specs.Lanes.{held_of}
use Rattle.event_ports.specs.Ports.{hand}
use Rattle.event_ports.specs.declared.rest.Rest.{Rest}
use Rattle.event_ports.specs.declared.lane.Holding.{Holding}
use Rattle.event_ports.specs.declared.lane.Lane.{Lane}
use Rattle.event_ports.specs.declared.port.Port.{Port}
use Rattle.event_device.specs.Device.{number_of}

abbrev pub held_entry : ℕ → Holding → Held
held_entry port x = record { port = port; queue = x.queue; number = x.number }

-- what a port holds, oldest first
abbrev pub held_by : Port → List Held
held_by p = map (held_entry (number_of p)) (hand p).holding

-- what of it came from one lane
abbrev pub held_from : Lane → Port → List Held
held_from l p = map (held_entry (number_of p)) (held_of l (hand p).holding)

-- an entry of this port, of this queue and number
abbrev pub entry_at : ℕ → ℕ × ℕ → Held
entry_at port x = record { port = port; queue = x.0; number = x.1 }

-- the same of what is left of a port
abbrev pub held_in : Rest → List Held
held_in r = map (held_entry r.number) r.held.items
