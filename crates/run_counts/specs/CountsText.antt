-- The text of what was counted of a run.
use Rattle.std.specs.Prelude.{ℕ, zero, suc, ◌-◌, ◌*◌, ◌/◌, ◌^◌, min, List, ◌++◌, codes, decimal, flat_map}
use Rattle.event_ports.specs.declared.counts.PortCounts.{PortCounts}
use Rattle.run_counts.specs.declared.text.Counts.{Counts}
use Rattle.run_counts.specs.declared.looks.PortWork.{PortWork}
use Rattle.run_counts.specs.declared.text.QueueWork.{QueueWork}

-- the share of a part, in hundredths, rounded down; of nothing it is 0
abbrev pub percent : ℕ → ℕ → ℕ
percent part zero = 0
percent part (suc n) = min (part * 100) (2 ^ 64 - 1) / suc n

abbrev pub queue_line : QueueWork → List ℕ
queue_line w =
    codes "queue " ++ decimal w.queue ++ codes ": came " ++ decimal w.came ++ codes ", given " ++ decimal w.given ++ codes ", waiting at most " ++ decimal w.most ++ codes "\n"

abbrev pub queue_lines : List QueueWork → List ℕ
queue_lines ws = flat_map queue_line ws

abbrev pub refusals : PortCounts → List ℕ
refusals c =
    codes "refused: Backpressure " ++ (decimal c.backpressure ++ (codes ", Raced " ++ (decimal c.raced ++ (codes ", Full " ++ (decimal c.full ++ (codes ", Stopped " ++ (decimal c.stopped ++ codes "\n")))))))

-- what port 0 brought in
abbrev pub producer_work : PortWork → List ℕ
producer_work w = codes "producer: brought " ++ decimal w.counts.enqueued ++ codes ", "

-- what each other port's worker did
abbrev pub worker_work : PortWork → List ℕ
worker_work w =
    codes "worker " ++ (decimal w.port ++ (codes ": handled " ++ (decimal w.counts.dequeued ++ (codes ", looks " ++ (decimal w.looks.all ++ (codes ", in vain " ++ (decimal w.looks.vain ++ (codes " (" ++ (decimal (percent w.looks.vain w.looks.all) ++ codes " %), ")))))))))

abbrev pub work_of : ℕ → PortWork → List ℕ
work_of zero w = producer_work w
work_of (suc n) w = worker_work w

abbrev pub port_line : PortWork → List ℕ
port_line w = work_of w.port w ++ refusals w.counts

abbrev pub port_lines : List PortWork → List ℕ
port_lines ws = flat_map port_line ws

-- the line of each queue, of each port, and of the sweeps
abbrev pub counts_text : Counts → List ℕ
counts_text c = queue_lines c.queues.items ++ (port_lines c.threads.ports.items ++ (codes "scheduler: sweeps " ++ (decimal c.threads.sweeps ++ codes "\n")))
