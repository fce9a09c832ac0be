use denote.Builtin.{u64}
use Rattle.event_c.proofs.Lent.{by_ref}
use Rattle.event_c.proofs.Fills.{fills}
use Rattle.event_c.specs.contracts.evsched_port_counts.Key.{name as #self}
use Rattle.event_c.proofs.evsched_port_counts.Statement.{statement}
use Rattle.event_c.proofs.evsched_port_counts.Code as code
use Rattle.event_handles.specs.Ports.{IsCounted}
use Rattle.event_handles.specs.contracts.port.PortHandle.{the_row}
use Rattle.event_handles.proofs.port.PortHandle.TheLaws.{the_row_laws, the_within}
use Rattle.event_handles.proofs.port.PortHandle.counts.Symbol.{name as #call}
use Rattle.event_handles.proofs.port.PortHandle.counts.Met.{met}

pub evsched_port_counts_spec : {M : Type 1} → statement M
evsched_port_counts_spec 𝓤 𝓛 𝓜 𝓡 wired =
    fills the_row the_row_laws the_within tt by_ref u64 tt (λ port _ before after answer. IsCounted port.seat before after answer) 𝓤 𝓛 𝓜 𝓡 #self #call (code.unfolded 𝓤 𝓛.H 𝓜 𝓡 wired)
    (met 𝓤 𝓛 𝓜 𝓡 (code.calls-event_handles::port::PortHandle::counts 𝓡.env wired))
