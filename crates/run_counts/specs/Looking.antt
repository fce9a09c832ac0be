-- What a worker counts of its looks for events.
use Rattle.std.specs.Prelude.{ℕ, zero, suc, ◌≡◌, ◌-◌, ◌^◌, Bool, true, false, min, List, length, count_by, sum_by}
use Rattle.event_ports.specs.Counts.{plus}
use Rattle.event_ports.specs.declared.counts.PortCounts.{PortCounts}
use Rattle.run_counts.specs.declared.looks.Looks.{Looks}

-- none was looked for yet
abbrev pub no_looks : Looks
no_looks = record { all = 0; vain = 0 }

-- after a look that found so many events
abbrev pub looked : ℕ → Looks → Looks
looked zero l = record { all = plus l.all 1; vain = plus l.vain 1 }
looked (suc n) l = record l { all = plus l.all 1 }

-- a look that found so many events found nothing
abbrev pub found_nothing : ℕ → Bool
found_nothing zero = true
found_nothing (suc n) = false

-- Of looks that found so many events each, how many there were and how many found nothing; together they found what the port counted
-- as dequeued.
pub record AreLooks (founds : List ℕ) (before after : PortCounts) (l : Looks) : Type 0 where
  pub all : l.all ≡ min (length founds) (2 ^ 64 - 1)
  pub vain : l.vain ≡ min (count_by found_nothing founds) (2 ^ 64 - 1)
  pub found : after.dequeued ≡ plus before.dequeued (sum_by (λ n. n) founds)

abbrev pub HasLooked : PortCounts → PortCounts → Looks → Type 0
HasLooked before after l = (founds : List ℕ) × AreLooks founds before after l
