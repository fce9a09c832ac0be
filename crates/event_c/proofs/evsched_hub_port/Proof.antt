use Rattle.event_c.proofs.Hands.{hands}
use Rattle.event_c.specs.contracts.evsched_hub_port.Key.{name as #self}
use Rattle.event_c.proofs.evsched_hub_port.Statement.{statement}
use Rattle.event_c.proofs.evsched_hub_port.Code as code
use Rattle.event_handles.specs.Hands.{Hands}
use Rattle.event_handles.specs.contracts.hub.Hub.{the_row}
use Rattle.event_handles.proofs.hub.Hub.TheLaws.{the_row_laws, the_within}
use Rattle.event_handles.specs.contracts.port.PortHandle.{the_row as other}
use Rattle.event_handles.proofs.port.PortHandle.TheLaws.{the_row_laws as other_laws}
use Rattle.event_handles.proofs.hub.Hub.hand_out.Symbol.{name as #call}
use Rattle.event_handles.proofs.hub.Hub.hand_out.Met.{met}

pub evsched_hub_port_spec : {M : Type 1} → statement M
evsched_hub_port_spec 𝓤 𝓛 𝓜 𝓡 wired =
    hands the_row the_row_laws the_within tt other other_laws Hands 𝓤 𝓛 𝓜 𝓡 #self #call (code.unfolded 𝓤 𝓛.H 𝓜 𝓡 wired)
    (met 𝓤 𝓛 𝓜 𝓡 (code.calls-event_handles::hub::Hub::hand_out 𝓡.env wired))
