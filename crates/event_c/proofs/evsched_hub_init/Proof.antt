use Rattle.event_c.proofs.Makes.{makes}
use Rattle.event_c.specs.contracts.evsched_hub_init.Key.{name as #self}
use Rattle.event_c.proofs.evsched_hub_init.Statement.{statement}
use Rattle.event_c.proofs.evsched_hub_init.Code as code
use Rattle.event_handles.specs.Start.{IsNew}
use Rattle.event_handles.specs.contracts.hub.Hub.{the_row}
use Rattle.event_handles.proofs.hub.Hub.TheLaws.{the_row_laws}
use Rattle.event_handles.specs.contracts.config.Config.{the_row as config_row}
use Rattle.event_handles.proofs.hub.Hub.new.Symbol.{name as #call}
use Rattle.event_handles.proofs.hub.Hub.new.Met.{met}

pub evsched_hub_init_spec : {M : Type 1} → statement M
evsched_hub_init_spec 𝓤 𝓛 𝓜 𝓡 wired =
    makes the_row the_row_laws config_row tt IsNew 𝓤 𝓛 𝓜 𝓡 #self #call (code.unfolded 𝓤 𝓛.H 𝓜 𝓡 wired)
    (met 𝓤 𝓛 𝓜 𝓡 (code.calls-event_handles::hub::Hub::new 𝓡.env wired))
