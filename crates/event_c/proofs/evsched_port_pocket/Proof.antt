use Rattle.std.proofs.Common.{◌≡◌}
use Rattle.event_c.proofs.Lent.{by_ref}
use Rattle.event_c.proofs.Answers.{answers}
use Rattle.event_c.specs.contracts.evsched_port_pocket.Key.{name as #self}
use Rattle.event_c.proofs.evsched_port_pocket.Statement.{statement}
use Rattle.event_c.proofs.evsched_port_pocket.Code as code
use Rattle.event_handles.specs.Ports.{pocket_in}
use Rattle.event_handles.specs.contracts.port.PortHandle.{the_row}
use Rattle.event_handles.proofs.port.PortHandle.TheLaws.{the_row_laws, the_within}
use Rattle.event_handles.proofs.port.PortHandle.pocket.Symbol.{name as #call}
use Rattle.event_handles.proofs.port.PortHandle.pocket.Met.{met}

pub evsched_port_pocket_spec : {M : Type 1} → statement M
evsched_port_pocket_spec 𝓤 𝓛 𝓜 𝓡 wired =
    answers the_row the_row_laws the_within tt by_ref (λ port _ answer. answer ≡ pocket_in port.seat) 𝓤 𝓛 𝓜 𝓡 #self #call (code.unfolded 𝓤 𝓛.H 𝓜 𝓡 wired)
    (met 𝓤 𝓛 𝓜 𝓡 (code.calls-event_handles::port::PortHandle::pocket 𝓡.env wired))
