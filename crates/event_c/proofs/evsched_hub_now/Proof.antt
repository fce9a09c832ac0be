use denote.Builtin.{u64}
use Rattle.event_c.proofs.Lent.{by_mut}
use Rattle.event_c.proofs.ReportsFor.{reports_for}
use Rattle.event_c.specs.contracts.evsched_hub_now.Key.{name as #self}
use Rattle.event_c.proofs.evsched_hub_now.Statement.{statement}
use Rattle.event_c.proofs.evsched_hub_now.Code as code
use Rattle.event_handles.specs.Now.{IsNow}
use Rattle.event_handles.specs.contracts.hub.Hub.{the_row}
use Rattle.event_handles.proofs.hub.Hub.TheLaws.{the_row_laws, the_within}
use Rattle.event_handles.proofs.hub.Hub.now.Symbol.{name as #call}
use Rattle.event_handles.proofs.hub.Hub.now.Met.{met}

pub evsched_hub_now_spec : {M : Type 1} → statement M
evsched_hub_now_spec 𝓤 𝓛 𝓜 𝓡 wired =
    reports_for the_row the_row_laws the_within tt by_mut u64 tt (λ hub new what before after answer. IsNow hub what new before after answer) 𝓤 𝓛 𝓜 𝓡 #self #call (code.unfolded 𝓤 𝓛.H 𝓜 𝓡 wired)
    (met 𝓤 𝓛 𝓜 𝓡 (code.calls-event_handles::hub::Hub::now 𝓡.env wired))
