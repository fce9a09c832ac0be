use Rattle.event_c.proofs.Lent.{by_mut}
use Rattle.event_c.proofs.Answers.{answers}
use Rattle.event_c.specs.contracts.evsched_control_shut.Key.{name as #self}
use Rattle.event_c.proofs.evsched_control_shut.Statement.{statement}
use Rattle.event_c.proofs.evsched_control_shut.Code as code
use Rattle.event_handles.specs.Hands.{IsShut}
use Rattle.event_handles.specs.contracts.control.ControlHandle.{the_row}
use Rattle.event_handles.proofs.control.ControlHandle.TheLaws.{the_row_laws, the_within}
use Rattle.event_handles.proofs.control.ControlHandle.shut.Symbol.{name as #call}
use Rattle.event_handles.proofs.control.ControlHandle.shut.Met.{met}

pub evsched_control_shut_spec : {M : Type 1} → statement M
evsched_control_shut_spec 𝓤 𝓛 𝓜 𝓡 wired =
    answers the_row the_row_laws the_within tt by_mut IsShut 𝓤 𝓛 𝓜 𝓡 #self #call (code.unfolded 𝓤 𝓛.H 𝓜 𝓡 wired)
    (met 𝓤 𝓛 𝓜 𝓡 (code.calls-event_handles::control::ControlHandle::shut 𝓡.env wired))
