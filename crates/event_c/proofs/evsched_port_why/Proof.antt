use Rattle.std.proofs.Common.{◌≡◌}
use Rattle.event_c.proofs.Lent.{by_ref}
use Rattle.event_c.proofs.Answers.{answers}
use Rattle.event_c.specs.contracts.evsched_port_why.Key.{name as #self}
use Rattle.event_c.proofs.evsched_port_why.Statement.{statement}
use Rattle.event_c.proofs.evsched_port_why.Code as code
use Rattle.event_handles.specs.Ports.{why_in}
use Rattle.event_handles.specs.contracts.port.PortHandle.{the_row}
use Rattle.event_handles.proofs.port.PortHandle.TheLaws.{the_row_laws, the_within}
use Rattle.event_handles.proofs.port.PortHandle.why.Symbol.{name as #call}
use Rattle.event_handles.proofs.port.PortHandle.why.Met.{met}

pub evsched_port_why_spec : {M : Type 1} → statement M
evsched_port_why_spec 𝓤 𝓛 𝓜 𝓡 wired =
    answers the_row the_row_laws the_within tt by_ref (λ port _ answer. answer ≡ why_in port.seat) 𝓤 𝓛 𝓜 𝓡 #self #call (code.unfolded 𝓤 𝓛.H 𝓜 𝓡 wired)
    (met 𝓤 𝓛 𝓜 𝓡 (code.calls-event_handles::port::PortHandle::why 𝓡.env wired))
