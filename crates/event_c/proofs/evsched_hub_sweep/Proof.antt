use Rattle.event_c.proofs.Lent.{by_mut}
use Rattle.event_c.proofs.Answers.{answers}
use Rattle.event_c.specs.contracts.evsched_hub_sweep.Key.{name as #self}
use Rattle.event_c.proofs.evsched_hub_sweep.Statement.{statement}
use Rattle.event_c.proofs.evsched_hub_sweep.Code as code
use Rattle.event_handles.specs.Hands.{IsSweep}
use Rattle.event_handles.specs.contracts.hub.Hub.{the_row}
use Rattle.event_handles.proofs.hub.Hub.TheLaws.{the_row_laws, the_within}
use Rattle.event_handles.proofs.hub.Hub.sweep.Symbol.{name as #call}
use Rattle.event_handles.proofs.hub.Hub.sweep.Met.{met}

pub evsched_hub_sweep_spec : {M : Type 1} → statement M
evsched_hub_sweep_spec 𝓤 𝓛 𝓜 𝓡 wired =
    answers the_row the_row_laws the_within tt by_mut IsSweep 𝓤 𝓛 𝓜 𝓡 #self #call (code.unfolded 𝓤 𝓛.H 𝓜 𝓡 wired)
    (met 𝓤 𝓛 𝓜 𝓡 (code.calls-event_handles::hub::Hub::sweep 𝓡.env wired))
