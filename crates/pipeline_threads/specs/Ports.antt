-- What the threads of a pipeline do with their ports, and what each promises of the port that it returns.
use Rattle.std.specs.Prelude.{◌≡◌, ℕ, zero, suc, true, false, List, [], ◌++◌, length, map, take, All}
use Rattle.std.specs.List.{AllZip}
use Rattle.event_ports.specs.Counts.{no_counts, plus}
use Rattle.event_ports.specs.Lanes.{Hand, IsEmptyHand, SubmitsAll, reply_of}
use Rattle.event_ports.specs.Ports.{counts_of, hand, links}
use Rattle.event_ports.specs.declared.lane.Holding.{Holding}
use Rattle.event_ports.specs.declared.lane.Lane.TheVariants.{Own}
use Rattle.event_ports.specs.declared.port.Port.{Port}
use Rattle.event_device.specs.Device.{number_of, site_of}
use Rattle.evt_types.specs.Operation.{is_answer_op, is_new_reply}
use Rattle.evt_types.specs.declared.event.Delivery.{Delivery}
use Rattle.evt_types.specs.declared.event.Event.{Event}
use Rattle.evt_types.specs.declared.event.Reply.{Reply}
use Rattle.pipeline_laws.specs.Promises.{IsProducer, IsWorker, PortLists, said_to}
use Rattle.pipeline_laws.specs.declared.stage.Action.{Action}
use Rattle.pipeline_laws.specs.declared.stage.Entry.{Entry}
use Rattle.pipeline_threads.specs.declared.promise.Worked.{Worked}
use Rattle.run_counts.specs.Looking.{HasLooked}
use Rattle.transcripts.specs.Replies.{said}

-- what the port submitted to its own lane, and what it received from it
abbrev pub submitted_by : Port → List Reply
submitted_by p = (hand p).said Own

abbrev pub received_by : Port → List Delivery
received_by p = (hand p).got Own

-- the same as the law of promises sees it
abbrev pub lists_of : Port → PortLists
lists_of p = record { submitted = submitted_by p; received = received_by p }

-- nothing was done with it
abbrev pub IsIdle : Port → Type 0
IsIdle p = IsEmptyHand (hand p) × (counts_of p ≡ no_counts)

-- it counted what it received from its own lane, where it has no other
abbrev pub HasCounted : Port → Type 0
HasCounted p = links p ≡ [] → (counts_of p).dequeued ≡ plus 0 (length (received_by p))

-- no NEW was submitted to the port's own lane
abbrev pub HasNoNews : Hand → Type 0
HasNoNews h = All (λ (r : Reply). is_new_reply r ≡ false) (h.said Own)

-- A worker's port with these links holds these deliveries, oldest first, and submitted no NEW; where it has its own lane alone they came
-- from that, and all that it received before is answered as is due.
pub record Owes (actions : List Action) (linked : List ℕ) (ds : List Delivery) (h : Hand) : Type 0 where
  pub due : linked ≡ [] → map said (h.said Own) ++ map (said_to actions) ds ≡ map (said_to actions) (h.got Own)
  pub own : linked ≡ [] → All (λ (x : Holding). x.lane ≡ Own) h.holding
  pub held : length h.holding ≡ length ds
  pub no_news : HasNoNews h

-- it holds nothing, and so owes nothing
abbrev pub IsEven : List Action → Port → Type 0
IsEven actions p = Owes actions (links p) [] (hand p)

-- the event is the answer that is due to the delivery
pub record IsDue (actions : List Action) (d : Delivery) (e : Event) : Type 0 where
  pub said : said (reply_of e) ≡ said_to actions d
  pub answers : is_answer_op e.op ≡ true

-- these are the answers to these deliveries, in their order
abbrev pub AreDue : List Action → List Delivery → List Event → Type 0
AreDue actions ds es = AllZip (IsDue actions) ds es

-- of these events so many were submitted, one after the other, and the rest wasn't
abbrev pub SubmitsFront : List Event → Hand → Hand → Type 0
SubmitsFront es h k = (n : ℕ) × SubmitsAll (take n es) h k

-- ---- promises

-- It submitted no NEW; where it has its own lane alone, what it submitted are the answers due to the first events that it received, in
-- order, and it counted what it received.
pub record HasWorked (actions : List Action) (p : Port) : Type 0 where
  pub worker : links p ≡ [] → IsWorker actions (lists_of p)
  pub no_news : HasNoNews (hand p)
  pub counted : HasCounted p

-- what the thread of the port of this number promises: port 0's is the producer, each other's a worker
abbrev pub IsPromised : List Action → List Entry → ℕ → Port → Type 0
IsPromised actions trace zero p = IsProducer trace (lists_of p)
IsPromised actions trace (suc n) p = HasWorked actions p

-- the port that a thread returns is the one that it was given, it did with it as it promised, and what its looks found is what the port
-- counted as dequeued
pub record Returns (actions : List Action) (trace : List Entry) (start : Port) (back : Worked) : Type 0 where
  pub site : site_of back.port ≡ site_of start
  pub promised : IsPromised actions trace (number_of start) back.port
  pub looked : HasLooked no_counts (counts_of back.port) back.looks
