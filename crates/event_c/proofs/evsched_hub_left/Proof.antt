use Rattle.event_c.proofs.Lent.{by_mut}
use Rattle.event_c.proofs.Fills.{fills}
use Rattle.event_c.specs.contracts.evsched_hub_left.Key.{name as #self}
use Rattle.event_c.proofs.evsched_hub_left.Statement.{statement}
use Rattle.event_c.proofs.evsched_hub_left.Code as code
use Rattle.event_handles.specs.Pulls.{IsLeft}
use Rattle.event_handles.specs.contracts.hub.Hub.{the_row}
use Rattle.event_handles.proofs.hub.Hub.TheLaws.{the_row_laws, the_within}
use Rattle.event_handles.specs.contracts.event.CLeft.{the_row as element}
use Rattle.event_handles.proofs.hub.Hub.left.Symbol.{name as #call}
use Rattle.event_handles.proofs.hub.Hub.left.Met.{met}

pub evsched_hub_left_spec : {M : Type 1} → statement M
evsched_hub_left_spec 𝓤 𝓛 𝓜 𝓡 wired =
    fills the_row the_row_laws the_within tt by_mut element tt IsLeft 𝓤 𝓛 𝓜 𝓡 #self #call (code.unfolded 𝓤 𝓛.H 𝓜 𝓡 wired)
    (met 𝓤 𝓛 𝓜 𝓡 (code.calls-event_handles::hub::Hub::left 𝓡.env wired))
