use Rattle.event_c.proofs.Lent.{by_mut}
use Rattle.event_c.proofs.Takes.{takes}
use Rattle.event_c.specs.contracts.evsched_port_enqueue.Key.{name as #self}
use Rattle.event_c.proofs.evsched_port_enqueue.Statement.{statement}
use Rattle.event_c.proofs.evsched_port_enqueue.Code as code
use Rattle.event_handles.specs.Ports.{IsEnqueue}
use Rattle.event_handles.specs.contracts.port.PortHandle.{the_row}
use Rattle.event_handles.proofs.port.PortHandle.TheLaws.{the_row_laws, the_within}
use Rattle.event_handles.specs.contracts.event.CEvent.{the_row as element}
use Rattle.event_handles.proofs.port.PortHandle.enqueue.Symbol.{name as #call}
use Rattle.event_handles.proofs.port.PortHandle.enqueue.Met.{met}

pub evsched_port_enqueue_spec : {M : Type 1} → statement M
evsched_port_enqueue_spec 𝓤 𝓛 𝓜 𝓡 wired =
    takes the_row the_row_laws the_within tt by_mut element tt (λ old new events answer. IsEnqueue old.seat new.seat events answer) 𝓤 𝓛 𝓜 𝓡 #self #call (code.unfolded 𝓤 𝓛.H 𝓜 𝓡 wired)
    (met 𝓤 𝓛 𝓜 𝓡 (code.calls-event_handles::port::PortHandle::enqueue 𝓡.env wired))
