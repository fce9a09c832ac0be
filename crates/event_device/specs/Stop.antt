-- What a stop takes, and the report that it gives.
use Rattle.std.specs.Prelude.{ℕ, ◌≡◌, ◌≢◌, ◌+◌, ◌<◌, true, false, List, [], ◌∷◌, ◌++◌, length, map, flat_map, take, slice_get, All, Contains, Some, sum, sum_by}
use Rattle.std.specs.declared.alloc.Global.{Global}
use Rattle.std.specs.declared.vec.Vec.{Vec}
use Rattle.evt_types.specs.Operation.{is_new_reply}
use Rattle.evt_types.specs.Plan.{Plan, flow_lanes, flow_links}
use Rattle.lists.specs.Lists.{has}
use Rattle.event_answers.specs.declared.report.Report.{Report}
use Rattle.evt_types.specs.Event.{pair_of}
use Rattle.event_ports.specs.Holds.{left_past}
use Rattle.event_ports.specs.Lanes.{held_of, pair_in}
use Rattle.event_ports.specs.Ports.{account_of, hand, pocket_of}
use Rattle.event_ports.specs.Stop.{AreStintsOf, IsPaid}
use Rattle.event_ports.specs.declared.lane.Lane.TheVariants.{Own, Flow}
use Rattle.event_ports.specs.declared.port.Port.{Port}
use Rattle.event_scheduler.specs.Scheduler.{IsAccepted, offered_at, taken_at}
use Rattle.evt_types.specs.declared.event.Reply.{Reply}
use Rattle.evt_types.specs.declared.step.Step.{Step}
use Rattle.flow_claims.specs.Lists.{no_lists}
use Rattle.flow_claims.specs.Stints.{IsDone, IsFinal, IsRecordFrom, answered_in_all, below, last_end, left_in, received_in_all, times}
use Rattle.flow_claims.specs.declared.seating.Past.{Past}
use Rattle.event_device.specs.Listed.{kept_all, turned_all, undelivered_all, untaken_all, waiting_all}
use Rattle.transcripts.specs.Transcript.{has_shut, out}
use Rattle.world_laws.specs.Logged.{as_logged}
use Rattle.world_laws.specs.Order.{AreReceivedAsAccepted, AreReceivedAsGiven, IsHeldAlone}
use Rattle.world_laws.specs.Rest.{AreRests, Rest, found_in, still_held}
use Rattle.world_laws.specs.World.{IsConsistent, LeadsTo, Move, World, after_moves, empty, in_hand, received_by, received_by_all}
use Rattle.event_device.specs.Control.{control_of, was_shut}
use Rattle.event_device.specs.Device.{Device, IsDevice, IsPortOf, control_site, number_of, scheduler_of, scheduler_site}
use Rattle.event_device.specs.Held.{entry_at, held_by, held_from}
use Rattle.event_device.specs.Ports.{AreByNumber, DifferInNumber}
use Rattle.event_device.specs.Recorder.{Recorded}
use Rattle.event_device.specs.declared.control.Control.{Control}

-- recorder, control and ports are of one device, and no port is there twice
pub record AreOf (r : Recorded) (control : Control) (ports : List Port) : Type 0 where
  pub device : Device
  pub fits : IsDevice device
  pub scheduler_is : scheduler_of r.sight ≡ scheduler_site device
  pub control_is : control_of control ≡ control_site device
  pub ports_are : All (IsPortOf device) ports
  pub once : DifferInNumber ports

-- ---- the lanes

-- What was received from a flow lane and answered to it is what its stints had, one after the other by number, each of a port that is
-- linked to it; no NEW went to it. These are all of the ports' finished stints that are the lane's, each once and at its number, and what
-- they left unanswered is what is still held. One that gave the lane back left nothing, and after one that surrendered it none came, so
-- that what is still held is what the last one left.
pub record AreStints (p : Plan) (j : ℕ) (finished : List Past) (r : Rest) : Type 0 where
  pub past : List Past
  pub recorded : IsRecordFrom j 0 no_lists past
  pub linked : All (λ x. has j (flow_links p x.port) ≡ true) past
  pub received : r.received ≡ received_in_all past
  pub answered_is : r.answered ≡ answered_in_all past
  pub no_news : All (λ (x : Reply). is_new_reply x ≡ false) r.answered
  pub in_record : All (λ x. x.lane ≡ j → slice_get past x.number ≡ Some x) finished
  pub among : All (Contains finished) past
  pub once : (number : ℕ) → times j number finished ≡ below number (length past)
  pub held : still_held r ≡ map pair_of (left_past j finished)
  pub done : All IsDone past
  pub final : IsFinal past
  pub last : still_held r ≡ map pair_of (left_in (last_end no_lists past))

-- What is still held of a flow lane is what the last stint of its record left, which surrendered it, and the port of that stint holds it:
-- of what the ports hold all that came from the lane is listed as that port's.
pub record IsHeldByLast (j : ℕ) (sorted : List Port) (past : List Past) (left : List (ℕ × ℕ)) : Type 0 where
  pub before : List Past
  pub last : Past
  pub is_last : past ≡ before ++ last ∷ []
  pub surrendered : last.surrendered ≡ true
  pub left_is : left ≡ map pair_of (left_in last.end)
  pub listed : flat_map (held_from (Flow j)) sorted ≡ map (entry_at last.port) left

-- Each lane has what the scheduler offered to it and took from it, each delivery with the accepted event of its number, and what its
-- holder received and answered and didn't answer: of a port's own lane the port, of a flow lane the ports that had it one after the other.
pub record AreLanesOf (r : Recorded) (ports : List Port) (finished : List Past) (rest : ℕ → Rest) : Type 0 where
  pub offered : (l : ℕ) → (rest l).offered ≡ offered_at r.sight l
  pub taken : (l : ℕ) → (rest l).taken ≡ taken_at r.sight l
  pub events : (l : ℕ) → All (IsAccepted r.log) (rest l).offered
  pub received : All (λ p. (rest (number_of p)).received ≡ (hand p).got Own) ports
  pub answered_is : All (λ p. (rest (number_of p)).answered ≡ (hand p).said Own) ports
  pub held : All (λ p. still_held (rest (number_of p)) ≡ map pair_in (held_of Own (hand p).holding)) ports
  pub flows : (j : ℕ) → j < length (flow_lanes r.sight.core.shape) → AreStints r.sight.core.shape j finished (rest (length r.sight.core.shape.ports + j))

-- ---- the law of the running world

-- At each moment of the run the log is lawful and the lists fit together, and the events of one slot of an atomic queue that are in
-- hands are in one lane's; each lane received the front of what it was given; over all lanes the events of one flow and level of an
-- atomic queue were received in accepted order, and those of one of its slots in the order in which they were given.
pub record IsOrderlyRun (p : Plan) (moves : List Move) (v : World) : Type 0 where
  pub moments : (k : ℕ) → IsConsistent p (after_moves moves k)
  pub alone : (k : ℕ) → IsHeldAlone p (after_moves moves k)
  pub fronts : (l : ℕ) → received_by l moves ≡ take (v.received l) (out v.log l)
  pub accepted : AreReceivedAsAccepted p v.log (received_by_all moves)
  pub given : AreReceivedAsGiven p v.log (received_by_all moves)

-- What was found came about by a run, in the order of the log, and whatever run led to it kept the order; and a lane's hand is what its
-- holder received and didn't answer.
pub record IsWorldOf (p : Plan) (T : List Step) (rest : ℕ → Rest) : Type 0 where
  pub run : LeadsTo p empty (as_logged p (found_in T rest)) (found_in T rest)
  pub every : (moves : List Move) → LeadsTo p empty moves (found_in T rest) → IsOrderlyRun p moves (found_in T rest)
  pub hands : (l : ℕ) → in_hand (found_in T rest) l ≡ still_held (rest l)

-- ---- the report

-- the steps of a log that keeps them
abbrev pub steps_in : Vec Step Global → List Step
steps_in log = log.items

-- how many entries its five lists have
abbrev pub entries_of : {X : Type 0} → Report X → ℕ
entries_of x = length x.waiting.items + length x.kept.items + length x.undelivered.items + length x.held.items + length x.untaken.items

-- The steps of the log are all that the sweeps logged, whether it keeps them or not; they are lawful, and have Shut only where the
-- control shut the device. The lists have what these steps and the lanes have left, each event with its payload, and what these steps
-- turned away. The finished stints are the ports', one port's after
-- the other's. In each port's pocket is what it drew and released, less what it returned and its NEWs and FORWARD_MOREs. The free credits are the limit and what was returned, without what was drawn, by all ports and the scheduler; and they,
-- those in the pockets and the entries of the lists are the limit.
pub record IsReport {X : Type 0} (steps : X → List Step) (r : Recorded) (control : Control) (ports : List Port) (report : Report X) : Type 0 where
  pub log : steps report.log ≡ r.log
  pub shut : has_shut r.log ≡ true → was_shut control ≡ true
  pub rest : ℕ → Rest
  pub rests : AreRests r.sight.core.shape r.log rest
  pub sorted : List Port
  pub by_number : AreByNumber (length r.sight.core.shape.ports) ports sorted
  pub finished : List Past
  pub stints : AreStintsOf sorted finished
  pub lanes : AreLanesOf r ports finished rest
  -- of each flow lane, where something is held of it, one port holds it
  pub holders : (j : ℕ) (low : j < length (flow_lanes r.sight.core.shape)) → still_held (rest (length r.sight.core.shape.ports + j)) ≢ []
      → IsHeldByLast j sorted (lanes.flows j low).past (still_held (rest (length r.sight.core.shape.ports + j)))
  pub world : IsWorldOf r.sight.core.shape r.log rest
  pub waiting : report.waiting.items ≡ waiting_all r.sight.core.shape r.log
  pub kept : report.kept.items ≡ kept_all r.sight.core.shape r.log
  pub undelivered : report.undelivered.items ≡ undelivered_all r.sight.core.shape rest
  pub held : report.held.items ≡ flat_map held_by sorted
  pub untaken : report.untaken.items ≡ untaken_all r.sight.core.shape rest
  pub turned : report.turned.items ≡ turned_all r.log
  pub pockets : report.pockets.items ≡ map pocket_of sorted
  pub paid : All IsPaid sorted
  pub own : report.own ≡ r.sight.pocket
  pub free : report.free + (r.sight.account.drawn + sum_by (λ p. (account_of p).drawn) sorted) ≡ r.sight.core.shape.limit + (r.sight.account.returned + sum_by (λ p. (account_of p).returned) sorted)
  pub sum_is : report.free + sum report.pockets.items + report.own + entries_of report ≡ r.sight.core.shape.limit
