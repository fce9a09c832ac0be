use Rattle.event_c.proofs.Lends.{lends}
use Rattle.event_c.specs.contracts.evsched_hub_control.Key.{name as #self}
use Rattle.event_c.proofs.evsched_hub_control.Statement.{statement}
use Rattle.event_c.proofs.evsched_hub_control.Code as code
use Rattle.event_handles.specs.Hands.{HandsControl}
use Rattle.event_handles.specs.contracts.hub.Hub.{the_row}
use Rattle.event_handles.proofs.hub.Hub.TheLaws.{the_row_laws, the_within}
use Rattle.event_handles.specs.contracts.control.ControlHandle.{the_row as other}
use Rattle.event_handles.proofs.control.ControlHandle.TheLaws.{the_row_laws as other_laws}
use Rattle.event_handles.proofs.hub.Hub.hand_control.Symbol.{name as #call}
use Rattle.event_handles.proofs.hub.Hub.hand_control.Met.{met}

pub evsched_hub_control_spec : {M : Type 1} → statement M
evsched_hub_control_spec 𝓤 𝓛 𝓜 𝓡 wired =
    lends the_row the_row_laws the_within tt other other_laws HandsControl 𝓤 𝓛 𝓜 𝓡 #self #call (code.unfolded 𝓤 𝓛.H 𝓜 𝓡 wired)
    (met 𝓤 𝓛 𝓜 𝓡 (code.calls-event_handles::hub::Hub::hand_control 𝓡.env wired))
