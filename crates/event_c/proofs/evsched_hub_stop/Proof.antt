use Rattle.event_c.proofs.Lent.{by_mut}
use Rattle.event_c.proofs.Answers.{answers}
use Rattle.event_c.specs.contracts.evsched_hub_stop.Key.{name as #self}
use Rattle.event_c.proofs.evsched_hub_stop.Statement.{statement}
use Rattle.event_c.proofs.evsched_hub_stop.Code as code
use Rattle.event_handles.specs.Stop.{IsStop}
use Rattle.event_handles.specs.contracts.hub.Hub.{the_row}
use Rattle.event_handles.proofs.hub.Hub.TheLaws.{the_row_laws, the_within}
use Rattle.event_handles.proofs.hub.Hub.stop.Symbol.{name as #call}
use Rattle.event_handles.proofs.hub.Hub.stop.Met.{met}

pub evsched_hub_stop_spec : {M : Type 1} → statement M
evsched_hub_stop_spec 𝓤 𝓛 𝓜 𝓡 wired =
    answers the_row the_row_laws the_within tt by_mut IsStop 𝓤 𝓛 𝓜 𝓡 #self #call (code.unfolded 𝓤 𝓛.H 𝓜 𝓡 wired)
    (met 𝓤 𝓛 𝓜 𝓡 (code.calls-event_handles::hub::Hub::stop 𝓡.env wired))
