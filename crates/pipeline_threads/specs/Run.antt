-- A device whose ports threads run, and what is known of it once they are joined.
use Rattle.std.specs.Prelude.{ℕ, zero, suc, ◌≡◌, ◌<◌, ◌≤◌, List, length, map, slice_get, slice_index_or, Some}
use Rattle.event_answers.specs.declared.answer.Swept.{Swept}
use Rattle.event_ports.specs.Counts.{no_counts, plus}
use Rattle.event_ports.specs.Ports.{counts_of}
use Rattle.event_ports.specs.declared.port.Port.{Port}
use Rattle.event_device.specs.Device.{port_site, site_of}
use Rattle.event_device.specs.Lent.{SweepsOnce}
use Rattle.event_device.specs.Parts.{Parts, device_of}
use Rattle.evt_types.specs.Plan.{Plan}
use Rattle.evt_types.specs.declared.draft.Serving.TheVariants.{Ports}
use Rattle.evt_types.specs.declared.step.Step.{Step}
use Rattle.pipeline_laws.specs.Worked.{AnswersAreDue, IsFinished, new_event, newcomers}
use Rattle.pipeline_laws.specs.declared.stage.Action.{Action}
use Rattle.pipeline_laws.specs.declared.stage.Entry.{Entry}
use Rattle.pipeline_threads.specs.Ports.{IsIdle, IsPromised}
use Rattle.run_counts.specs.Looking.{HasLooked}
use Rattle.run_counts.specs.declared.looks.PortWork.{PortWork}
use Rattle.transcripts.specs.Lawful.{IsPrefix, Lawful}
use Rattle.transcripts.specs.Laws.{AddsNone}
use Rattle.transcripts.specs.Transcript.{out}

-- its first ports, so many, are at home and idle
abbrev pub AreIdle : ℕ → Parts → Type 0
AreIdle count r = (n : ℕ) → n < count → (port : Port) × (slice_get r.ports n ≡ Some (Some port)) × IsIdle port

-- what was counted of the port of this number and its thread: what the port counted, and looks that found what it dequeued
pub record IsPortWork (n : ℕ) (p : Port) (w : PortWork) : Type 0 where
  pub port : w.port ≡ n
  pub counts : w.counts ≡ counts_of p
  pub looked : HasLooked no_counts w.counts w.looks

-- so many ports' work, of each that is at home
pub record ArePortWorks (count : ℕ) (r : Parts) (works : List PortWork) : Type 0 where
  pub count_is : length works ≡ count
  pub each : (n : ℕ) (d : PortWork) (port : Port) → n < count → slice_get r.ports n ≡ Some (Some port) → IsPortWork n port (slice_index_or works n d)

-- The same, as the log knows it: where the device serves by ports, a worker's port dequeued just what the log gave to it.
pub record IsWork (p : Plan) (T : List Step) (n : ℕ) (w : PortWork) : Type 0 where
  pub port : w.port ≡ n
  pub looked : HasLooked no_counts w.counts w.looks
  pub dequeued : p.serving ≡ Ports → 0 < n → w.counts.dequeued ≡ plus 0 (length (out T n))

-- of each port, by number
pub record AreWorks (p : Plan) (T : List Step) (works : List PortWork) : Type 0 where
  pub count : length works ≡ length p.ports
  pub each : (n : ℕ) (d : PortWork) → n < length p.ports → IsWork p T n (slice_index_or works n d)

-- so many sweeps, one after the other
abbrev pub SweepsMany : ℕ → Parts → Parts → Type 0
SweepsMany zero r q = q ≡ r
SweepsMany (suc k) r q = (m : Parts) × (swept : Swept) × SweepsMany k r m × SweepsOnce swept m q

-- its log is that of a run to whose end the whole trace went in and came out
abbrev pub IsDone : List Entry → Parts → Type 0
IsDone trace r = IsFinished r.recorded.sight.core.shape trace r.recorded.log

-- its port of this number is at home, and its thread kept its promise
pub record IsBack (actions : List Action) (trace : List Entry) (n : ℕ) (r : Parts) : Type 0 where
  pub port : Port
  pub at_home : slice_get r.ports n ≡ Some (Some port)
  pub site : site_of port ≡ port_site (device_of r) n
  pub promised : IsPromised actions trace n port

-- Threads ran its first ports, so many, to the end of the trace: these are at home, and all other homes are as they were.
pub record HasRun (actions : List Action) (trace : List Entry) (count : ℕ) (before after : Parts) : Type 0 where
  pub device : device_of after ≡ device_of before
  pub back : (n : ℕ) → n < count → IsBack actions trace n after
  pub others : (n : ℕ) → count ≤ n → slice_get after.ports n ≡ slice_get before.ports n
  pub done : IsDone trace after

-- The log is lawful, what came in is the front of the trace, and all of that went through; where the device serves by ports each answer
-- is its stage's action, and no event was added beside another.
pub record IsRunLog (p : Plan) (actions : List Action) (trace : List Entry) (T : List Step) : Type 0 where
  pub lawful : Lawful p T
  pub answers : p.serving ≡ Ports → AddsNone T × AnswersAreDue actions T
  pub newcomers : IsPrefix (newcomers T) (map new_event trace)
  pub finished : IsFinished p trace T
