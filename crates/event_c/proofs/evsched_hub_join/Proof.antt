use Rattle.event_c.proofs.Joins.{joins}
use Rattle.event_c.specs.contracts.evsched_hub_join.Key.{name as #self}
use Rattle.event_c.proofs.evsched_hub_join.Statement.{statement}
use Rattle.event_c.proofs.evsched_hub_join.Code as code
use Rattle.event_handles.specs.Hands.{IsOf, Joins}
use Rattle.event_handles.specs.contracts.hub.Hub.{the_row}
use Rattle.event_handles.proofs.hub.Hub.TheLaws.{the_row_laws, the_within}
use Rattle.event_handles.specs.contracts.port.PortHandle.{the_row as other}
use Rattle.event_handles.proofs.port.PortHandle.TheLaws.{the_row_laws as other_laws}
use Rattle.event_handles.proofs.hub.Hub.join.Symbol.{name as #call}
use Rattle.event_handles.proofs.hub.Hub.join.Met.{met}

pub evsched_hub_join_spec : {M : Type 1} → statement M
evsched_hub_join_spec 𝓤 𝓛 𝓜 𝓡 wired =
    joins the_row the_row_laws the_within tt other other_laws IsOf Joins 𝓤 𝓛 𝓜 𝓡 #self #call (code.unfolded 𝓤 𝓛.H 𝓜 𝓡 wired)
    (met 𝓤 𝓛 𝓜 𝓡 (code.calls-event_handles::hub::Hub::join 𝓡.env wired))
