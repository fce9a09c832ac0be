-- What was counted of a run as JSON, one object a line.
use Rattle.std.specs.Prelude.{ℕ, zero, suc, List, [], ◌∷◌, ◌++◌, codes, flat_map}
use Rattle.serde_json.specs.Data as json
use Rattle.serde_json.specs.Data.{Data, object, string, Members, no_members, member}
use Rattle.serde_json.specs.Written.{compact_text}
use Rattle.event_ports.specs.declared.counts.PortCounts.{PortCounts}
use Rattle.run_counts.specs.declared.text.Counts.{Counts}
use Rattle.run_counts.specs.declared.looks.PortWork.{PortWork}
use Rattle.run_counts.specs.declared.text.QueueWork.{QueueWork}

-- ---- objects; the members stand in the order of their keys

abbrev pub of_members : List (List ℕ × Data) → Members
of_members [] = no_members
of_members (m ∷ ms) = member m.0 m.1 (of_members ms)

abbrev pub object_of : List (List ℕ × Data) → Data
object_of ms = object (of_members ms)

abbrev pub count : ℕ → Data
count n = json.number (json.unsigned n)

-- an object's line
abbrev pub line : Data → List ℕ
line d = compact_text d ++ codes "\n"

-- ---- what was counted

abbrev pub queue_object : QueueWork → Data
queue_object w =
    object_of (
    (codes "came", count w.came) ∷ (codes "given", count w.given) ∷ (codes "queue", count w.queue) ∷ (codes "stats", string (codes "queue")) ∷ (codes "waiting_most", count w.most) ∷ []
    )

-- how many enqueues of the port's were refused, by cause
abbrev pub refusals_object : PortCounts → Data
refusals_object c =
    object_of ((codes "Backpressure", count c.backpressure) ∷ (codes "Full", count c.full) ∷ (codes "Raced", count c.raced) ∷ (codes "Stopped", count c.stopped) ∷ [])

-- what port 0 brought in
abbrev pub producer_object : PortWork → Data
producer_object w =
    object_of (
    (codes "brought", count w.counts.enqueued) ∷ (codes "port", count w.port) ∷ (codes "refused", refusals_object w.counts) ∷ (codes "stats", string (codes "producer")) ∷ []
    )

-- what each other port's worker did
abbrev pub worker_object : PortWork → Data
worker_object w =
    object_of (
    (codes "handled", count w.counts.dequeued)
    ∷ (codes "in_vain", count w.looks.vain)
    ∷ (codes "looks", count w.looks.all)
    ∷ (codes "port", count w.port)
    ∷ (codes "refused", refusals_object w.counts)
    ∷ (codes "stats", string (codes "worker"))
    ∷ []
    )

abbrev pub work_object_of : ℕ → PortWork → Data
work_object_of zero w = producer_object w
work_object_of (suc n) w = worker_object w

abbrev pub port_object : PortWork → Data
port_object w = work_object_of w.port w

abbrev pub scheduler_object : ℕ → Data
scheduler_object sweeps = object_of ((codes "stats", string (codes "scheduler")) ∷ (codes "sweeps", count sweeps) ∷ [])

abbrev pub queue_object_lines : List QueueWork → List ℕ
queue_object_lines ws = flat_map (λ w. line (queue_object w)) ws

abbrev pub port_object_lines : List PortWork → List ℕ
port_object_lines ws = flat_map (λ w. line (port_object w)) ws

-- the line of each queue, of each port, and of the sweeps
abbrev pub counts_json : Counts → List ℕ
counts_json c = queue_object_lines c.queues.items ++ (port_object_lines c.threads.ports.items ++ line (scheduler_object c.threads.sweeps))
