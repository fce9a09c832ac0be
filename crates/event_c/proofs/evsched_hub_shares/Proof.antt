use denote.Builtin.{u64}
use Rattle.event_c.proofs.Lent.{by_ref}
use Rattle.event_c.proofs.SharesFor.{shares_for}
use Rattle.event_c.specs.contracts.evsched_hub_shares.Key.{name as #self}
use Rattle.event_c.proofs.evsched_hub_shares.Statement.{statement}
use Rattle.event_c.proofs.evsched_hub_shares.Code as code
use Rattle.event_handles.specs.Now.{IsShared}
use Rattle.event_handles.specs.contracts.hub.Hub.{the_row}
use Rattle.event_handles.proofs.hub.Hub.TheLaws.{the_row_laws, the_within}
use Rattle.event_handles.proofs.hub.Hub.shares.Symbol.{name as #call}
use Rattle.event_handles.proofs.hub.Hub.shares.Met.{met}

pub evsched_hub_shares_spec : {M : Type 1} → statement M
evsched_hub_shares_spec 𝓤 𝓛 𝓜 𝓡 wired =
    shares_for the_row the_row_laws the_within tt by_ref u64 tt (λ hub _ queue port before after answer. IsShared hub queue port before after answer) 𝓤 𝓛 𝓜 𝓡 #self #call (code.unfolded 𝓤 𝓛.H 𝓜 𝓡 wired)
    (met 𝓤 𝓛 𝓜 𝓡 (code.calls-event_handles::hub::Hub::shares 𝓡.env wired))
