-- What a port counts: the events that it enqueued, dequeued and released, and its refusals by their cause.
use Rattle.std.specs.Prelude.{ℕ, zero, suc, ◌+◌, ◌-◌, ◌^◌, min, Option, Result}
use Rattle.std.specs.Prelude.Option.{Some, None}
use Rattle.std.specs.Prelude.Result.{Ok, Err}
use Rattle.event_answers.specs.declared.answer.Refused.{Refused}
use Rattle.event_answers.specs.declared.answer.Refused.TheVariants.{Stopped, BadQueue, NothingHeld, Backpressure, Raced, Full, TooMany}
use Rattle.event_ports.specs.declared.counts.PortCounts.{PortCounts}

-- a count after so many more: one that reaches 2^64 - 1 stays there
abbrev pub plus : ℕ → ℕ → ℕ
plus count more = min (count + more) (2 ^ 64 - 1)

-- the counts of a port to which nothing was done yet
abbrev pub no_counts : PortCounts
no_counts =
    record {
      enqueued = 0;
      dequeued = 0;
      released = 0;
      stopped = 0;
      bad_queue = 0;
      nothing_held = 0;
      backpressure = 0;
      raced = 0;
      full = 0;
      too_many = 0;
      behind = 0;
    }

-- after so many events were taken
abbrev pub after_taken : ℕ → PortCounts → PortCounts
after_taken events c = record c { enqueued = plus c.enqueued events }

-- after an event was refused: its cause is counted, and nothing else
abbrev pub after_refused : Refused → PortCounts → PortCounts
after_refused Stopped c = record c { stopped = plus c.stopped 1 }
after_refused BadQueue c = record c { bad_queue = plus c.bad_queue 1 }
after_refused NothingHeld c = record c { nothing_held = plus c.nothing_held 1 }
after_refused (Backpressure free) c = record c { backpressure = plus c.backpressure 1 }
after_refused (Raced first second) c = record c { raced = plus c.raced 1 }
after_refused Full c = record c { full = plus c.full 1 }
after_refused TooMany c = record c { too_many = plus c.too_many 1 }

-- after the enqueue of one event, by its answer
abbrev pub after_enqueue : Result (Unit {0}) Refused → PortCounts → PortCounts
after_enqueue (Ok _) c = after_taken 1 c
after_enqueue (Err refused) c = after_refused refused c

-- after so many enqueues of one event each that took it
abbrev pub after_enqueues : ℕ → PortCounts → PortCounts
after_enqueues zero c = c
after_enqueues (suc n) c = after_enqueues n (after_enqueue (Ok tt) c)

-- after a burst, which counts as the enqueues of its single events do: so many were taken, and then the end came or a refusal
abbrev pub after_burst : ℕ → Option Refused → PortCounts → PortCounts
after_burst taken None c = after_enqueues taken c
after_burst taken (Some refused) c = after_enqueue (Err refused) (after_enqueues taken c)

-- after a dequeue that first released so many events, and then gave so many deliveries
abbrev pub after_dequeue : ℕ → ℕ → PortCounts → PortCounts
after_dequeue released came c = record c { released = plus c.released released; dequeued = plus c.dequeued came }

-- after a dequeue that released so many events and ended with `Behind`
abbrev pub after_behind : ℕ → PortCounts → PortCounts
after_behind released c = record c { released = plus c.released released; behind = plus c.behind 1 }
