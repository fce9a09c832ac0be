-- What the calls of a device that runs do: it sweeps, and ports and the control leave it and come back.
use Rattle.std.specs.Prelude.{ℕ, zero, suc, ◌≡◌, ◌≢◌, ◌<◌, ◌≤◌, ◌⊎◌, slice_get, slice_set, Bool, true, false, Option}
use Rattle.std.specs.Prelude.Option.{Some, None}
use Rattle.event_answers.specs.declared.answer.Swept.{Swept}
use Rattle.event_ports.specs.declared.port.Port.{Port}
use Rattle.event_scheduler.specs.Looking.{looked}
use Rattle.event_scheduler.specs.Swept.{Sweeps}
use Rattle.transcripts.specs.Transcript.{inside}
use Rattle.event_device.specs.Control.{control_of, was_shut}
use Rattle.event_device.specs.Device.{IsPortOf, control_site, number_of}
use Rattle.event_device.specs.Parts.{Parts, device_of}
use Rattle.event_device.specs.declared.control.Control.{Control}

-- ---- sweeps

-- all but the recorder stays
abbrev pub Keeps : Parts → Parts → Type 0
Keeps r q = q ≡ record r { recorded = q.recorded }

-- one sweep
pub record SweepsOnce (swept : Swept) (r q : Parts) : Type 0 where
  pub sweeps : Sweeps swept r.recorded.sight r.recorded.log q.recorded.sight q.recorded.log
  pub others : Keeps r q

-- the scheduler's seat has read this word of the credits, and all else stays
abbrev pub with_look : ℕ → Parts → Parts
with_look word r = record r { recorded = record r.recorded { sight = looked word r.recorded.sight } }

-- how many events are inside
abbrev pub inside_of : Parts → ℕ
inside_of r = inside r.recorded.sight.core.shape r.recorded.log

-- after so many sweeps something is inside, if there was one
abbrev pub IsBusy : ℕ → Parts → Type 0
IsBusy zero r = Unit {0}
IsBusy (suc k) r = inside_of r ≢ 0

-- so many sweeps, one after the other, and after each but the last something is inside
abbrev pub SweepsOn : ℕ → Parts → Parts → Type 0
SweepsOn zero r q = q ≡ r
SweepsOn (suc k) r q = (m : Parts) × (swept : Swept) × SweepsOn k r m × IsBusy k m × SweepsOnce swept m q

-- Sweeps at most so many times, and ends at the first sweep after which nothing is inside.
pub record SweepsAll (most left : ℕ) (r q : Parts) : Type 0 where
  pub count : ℕ
  pub few : count ≤ most
  pub sweeps : SweepsOn count r q
  pub left_is : left ≡ inside_of q
  pub ends : (left ≡ 0) ⊎ (count ≡ most)

-- Fewer sweeps than so many, after each of which something is inside.
pub record SweepsSome (most : ℕ) (r q : Parts) : Type 0 where
  pub count : ℕ
  pub few : count < most
  pub sweeps : SweepsOn count r q
  pub busy : IsBusy count q

-- ---- ports

-- no port of the number is at home
abbrev pub IsAway : ℕ → Parts → Type 0
IsAway n r = (port : Port) → slice_get r.ports n ≢ Some (Some port)

-- the port of the number, which is one of the device's, leaves, and all others are where they were
pub record Leaves (n : ℕ) (port : Port) (r q : Parts) : Type 0 where
  pub was_home : slice_get r.ports n ≡ Some (Some port)
  pub number : number_of port ≡ n
  pub of_device : IsPortOf (device_of r) port
  pub away : q ≡ record r { ports = slice_set r.ports n None }

abbrev pub MayLeave : ℕ → Option Port → Parts → Parts → Type 0
MayLeave n None r q = IsAway n r × (q ≡ r)
MayLeave n (Some port) r q = Leaves n port r q

-- the port is in the home of its number, where none was, and all others are where they were
pub record ComesBack (port : Port) (r q : Parts) : Type 0 where
  pub was_away : slice_get r.ports (number_of port) ≡ Some None
  pub at_home : q ≡ record r { ports = slice_set r.ports (number_of port) (Some port) }

-- a port of its number is there, and nothing changes
pub record IsThere (port : Port) (r q : Parts) : Type 0 where
  pub other : Port
  pub was_home : slice_get r.ports (number_of port) ≡ Some (Some other)
  pub same : q ≡ r

-- ---- the control

-- the control leaves, where it is at home
pub record ControlLeaves (made : Option Control) (r q : Parts) : Type 0 where
  pub was_home : made ≡ r.control
  pub of_device : (control : Control) → made ≡ Some control → control_of control ≡ control_site (device_of r)
  pub away : q ≡ record r { control = None }

-- it is at home again
pub record ControlComesBack (control : Control) (r q : Parts) : Type 0 where
  pub was_away : r.control ≡ None
  pub at_home : q ≡ record r { control = Some control }

-- a control is there, and nothing changes
pub record ControlIsThere (r q : Parts) : Type 0 where
  pub other : Control
  pub was_home : r.control ≡ Some other
  pub same : q ≡ r

-- Where it is at home it shuts the device, and stays that device's.
abbrev pub ShutsBy : Option Control → Bool → Parts → Parts → Type 0
ShutsBy None shut r q = (shut ≡ false) × (q ≡ r)
ShutsBy (Some c) shut r q = (shut ≡ true) × ((d : Control) × (control_of d ≡ control_of c) × (was_shut d ≡ true) × (q ≡ record r { control = Some d }))

abbrev pub Shuts : Bool → Parts → Parts → Type 0
Shuts shut r q = ShutsBy r.control shut r q
