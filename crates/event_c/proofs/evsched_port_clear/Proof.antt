use Rattle.event_c.proofs.Clears.{clears}
use Rattle.event_c.specs.contracts.evsched_port_clear.Key.{name as #self}
use Rattle.event_c.proofs.evsched_port_clear.Statement.{statement}
use Rattle.event_c.proofs.evsched_port_clear.Code as code
use Rattle.event_handles.specs.contracts.port.PortHandle.{the_row}
use Rattle.event_handles.proofs.port.PortHandle.TheLaws.{the_row_laws}
use Rattle.event_handles.proofs.port.PortHandle.close.Symbol.{name as #call}
use Rattle.event_handles.proofs.port.PortHandle.close.Met.{met}

pub evsched_port_clear_spec : {M : Type 1} → statement M
evsched_port_clear_spec 𝓤 𝓛 𝓜 𝓡 wired =
    clears the_row the_row_laws 𝓤 𝓛 𝓜 𝓡 #self #call (code.unfolded 𝓤 𝓛.H 𝓜 𝓡 wired)
    (met 𝓤 𝓛 𝓜 𝓡 (code.calls-event_handles::port::PortHandle::close 𝓡.env wired))
