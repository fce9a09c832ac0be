-- A hub as its calls see it, and what a call may change of it. Of a device that runs these are the parts that `Device` shows.
use Rattle.std.specs.Prelude.{◌≡◌, ℤ, pos, Option}
use Rattle.std.specs.Prelude.Option.{Some, None}
use Rattle.transcripts.specs.Transcript.{inside}
use Rattle.event_device.specs.Parts.{Parts}
use Rattle.event_handles.specs.Numbers.{no_device}
use Rattle.event_handles.specs.declared.hub.Hub.{Hub}
use Rattle.event_handles.specs.declared.stopped.Stopped.{Stopped}

-- Where the device runs P holds of it before and after; where it doesn't, Q holds, and it still doesn't run.
abbrev pub WhileRunning : (Parts → Parts → Type 0) → Type 0 → Option Parts → Option Parts → Type 0
WhileRunning P Q (Some r) (Some q) = P r q
WhileRunning P Q (Some r) None = ⊥
WhileRunning P Q None (Some q) = ⊥
WhileRunning P Q None None = Q

-- The same of a hub, of which nothing else changes.
pub record Changes (P : Parts → Parts → Type 0) (Q : Type 0) (old new : Hub) : Type 0 where
  pub device : WhileRunning P Q old.device new.device
  pub stopped : new.stopped ≡ old.stopped
  pub sweeps : new.sweeps ≡ old.sweeps
  pub why : new.why ≡ old.why

-- how many events wait, are kept or are unanswered in a device that runs; else what there is to say
abbrev pub inside_in : Option Parts → Option Stopped → ℤ → ℤ
inside_in (Some r) stopped why = pos (inside r.recorded.sight.core.shape r.recorded.log)
inside_in None (Some s) why = no_device
inside_in None None why = why
