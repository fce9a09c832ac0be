-- What the calls of a hub that runs do: ports and control leave it and come back, and it sweeps. Each does what `Device` promises of
-- its own call (`event_device`, specs/Lent.antt), and answers a number.
use Rattle.std.specs.Prelude.{ℕ, ℤ, pos, ◌≡◌, ◌+◌, ◌⊎◌, true, length, Option}
use Rattle.std.specs.Prelude.Option.{Some, None}
use Rattle.event_answers.specs.declared.answer.Swept.{Swept}
use Rattle.event_device.specs.Control.{control_of, was_shut}
use Rattle.event_device.specs.Device.{IsPortOf, control_site}
use Rattle.event_device.specs.Lent.{ComesBack, ControlComesBack, ControlIsThere, ControlLeaves, IsThere, MayLeave, SweepsOnce}
use Rattle.event_device.specs.Parts.{Parts, device_of}
use Rattle.event_device.specs.declared.control.Control.{Control}
use Rattle.event_handles.specs.Hub.{Changes, WhileRunning}
use Rattle.event_handles.specs.Kinds.{kinds_of}
use Rattle.event_handles.specs.Numbers.{busy, no_device, no_memory}
use Rattle.event_handles.specs.Sweeps.{AreLast, after_sweep}
use Rattle.event_handles.specs.declared.control.ControlHandle.{ControlHandle}
use Rattle.event_handles.specs.declared.hub.Hub.{Hub}
use Rattle.event_handles.specs.declared.port.PortHandle.{PortHandle}
use Rattle.event_handles.specs.declared.port.Seat.{Seat}
use Rattle.event_handles.specs.declared.sweep_counts.SweepCounts.{SweepCounts}

-- ---- a port leaves

-- a seat that nothing was done with, with the scheduling types of the device's queues
pub record IsNewSeat (r : Parts) (seat : Seat) : Type 0 where
  pub kinds : seat.kinds ≡ kinds_of r
  pub why : seat.why ≡ pos 0

-- the port of the number leaves in a new seat, or there is none at home
abbrev pub SeatMayLeave : ℕ → Option Seat → Parts → Parts → Type 0
SeatMayLeave n None r q = MayLeave n None r q
SeatMayLeave n (Some seat) r q = MayLeave n (Some seat.port) r q × IsNewSeat r seat

abbrev pub Hands : Hub → ℕ → Hub → PortHandle → Type 0
Hands old n new made = Changes (SeatMayLeave n made.seat) (made.seat ≡ None) old new

-- ---- a port comes back

-- where the hub runs and the handle has a port, this is one of the device's
abbrev pub IsOf : Hub → PortHandle → Type 0
IsOf hub handle = (r : Parts) (seat : Seat) → hub.device ≡ Some r → handle.seat ≡ Some seat → IsPortOf (device_of r) seat.port

-- it comes back, or a port of its number is there, or the handle has none
abbrev pub SeatMayComeBack : Option Seat → ℤ → Parts → Parts → Type 0
SeatMayComeBack None answer r q = (answer ≡ no_device) × (q ≡ r)
SeatMayComeBack (Some seat) answer r q = ((answer ≡ pos 0) × ComesBack seat.port r q) ⊎ ((answer ≡ busy) × IsThere seat.port r q)

abbrev pub Joins : Hub → PortHandle → Hub → ℤ → Type 0
Joins old handle new answer = Changes (SeatMayComeBack handle.seat answer) (answer ≡ no_device) old new

-- ---- the control

abbrev pub HandsControl : Hub → Hub → ControlHandle → Type 0
HandsControl old new made = Changes (ControlLeaves made.control) (made.control ≡ None) old new

-- where the hub runs and the handle has a control, this is the device's
abbrev pub IsControlOf : Hub → ControlHandle → Type 0
IsControlOf hub handle = (r : Parts) (control : Control) → hub.device ≡ Some r → handle.control ≡ Some control → control_of control ≡ control_site (device_of r)

-- it comes back, or a control is there, or the handle has none
abbrev pub ControlMayComeBack : Option Control → ℤ → Parts → Parts → Type 0
ControlMayComeBack None answer r q = (answer ≡ no_device) × (q ≡ r)
ControlMayComeBack (Some control) answer r q = ((answer ≡ pos 0) × ControlComesBack control r q) ⊎ ((answer ≡ busy) × ControlIsThere r q)

abbrev pub JoinsControl : Hub → ControlHandle → Hub → ℤ → Type 0
JoinsControl old handle new answer = Changes (ControlMayComeBack handle.control answer) (answer ≡ no_device) old new

-- it shuts the device, and stays that device's
pub record Shuts (c d : Control) (answer : ℤ) : Type 0 where
  pub answered : answer ≡ pos 0
  pub site : control_of d ≡ control_of c
  pub shut : was_shut d ≡ true

abbrev pub ShutsBy : Option Control → Option Control → ℤ → Type 0
ShutsBy (Some c) (Some d) answer = Shuts c d answer
ShutsBy (Some c) None answer = ⊥
ShutsBy None (Some d) answer = ⊥
ShutsBy None None answer = answer ≡ no_device

abbrev pub IsShut : ControlHandle → ControlHandle → ℤ → Type 0
IsShut old new answer = ShutsBy old.control new.control answer

-- ---- a sweep

-- One sweep, and how many replies it took and events it gave. It is counted, with what it gave to each port's lane.
pub record Sweeps (answer : ℤ) (c d : SweepCounts) (r q : Parts) : Type 0 where
  pub swept : Swept
  pub sweeps : SweepsOnce swept r q
  pub answered : answer ≡ pos (swept.taken + swept.given)
  pub counted : d ≡ after_sweep swept d.sent d.before c
  pub last : AreLast r.recorded.log q.recorded.log (length r.recorded.sight.core.shape.ports) d

-- or memory ran out, and nothing has changed
abbrev pub MaySweep : ℤ → SweepCounts → SweepCounts → Parts → Parts → Type 0
MaySweep answer c d r q = Sweeps answer c d r q ⊎ ((answer ≡ no_memory) × (q ≡ r) × (d ≡ c))

pub record IsSweep (old new : Hub) (answer : ℤ) : Type 0 where
  pub device : WhileRunning (MaySweep answer old.sweeps new.sweeps) ((answer ≡ no_device) × (new.sweeps ≡ old.sweeps)) old.device new.device
  pub stopped : new.stopped ≡ old.stopped
  pub why : new.why ≡ old.why
