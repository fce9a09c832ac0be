-- What a call changed of a hub whose device ran.
use Rattle.std.proofs.Common.{◌≡◌, ℤ, pos, Some, None, inl, sym, subst}
use Rattle.std.specs.Prelude.{Option}
use Rattle.event_device.specs.Parts.{Parts}
use Rattle.event_handles.specs.Hub.{WhileRunning}
use Rattle.event_handles.specs.Stop.{IsStop, Stops, StopsFrom}
use Rattle.event_handles.specs.declared.hub.Hub.{Hub}
use Rattle.event_handles.specs.declared.stopped.Stopped.{Stopped}

-- it still does
pub while_running : (P : Parts → Parts → Type 0) (Q : Type 0) (o p : Option Parts) (r q : Parts) → o ≡ Some r → p ≡ Some q → P r q → WhileRunning P Q o p
while_running P Q o p r q runs still holds = subst (λ x. WhileRunning P Q x p) (sym runs) (subst (λ x. WhileRunning P Q (Some r) x) (sym still) holds)

-- it was stopped
pub stopped_done : (old new : Hub) (answer : ℤ) → new.why ≡ old.why → new.sweeps ≡ old.sweeps → (r : Parts) (stopped : Stopped) → old.device ≡ Some r → new.device ≡ None → new.stopped ≡ Some stopped → Stops r stopped → answer ≡ pos 0 → IsStop old new answer
stopped_done old new answer why sweeps r stopped runs gone left stops is =
    subst (λ o. StopsFrom o old new answer) (sym runs) (inl (record { answered = is; gone = gone; stopped = stopped; left = left; stops = stops; sweeps = sweeps; why = why }))
