use Rattle.std.proofs.Common.{◌≡◌, ◌≤◌, length, replicate, vec_capacity, None}
use Rattle.event_ports.proofs.flows.free_entries.Given as goal

abbrev pub invariant-loop : goal.invariant-loop
invariant-loop l = (l.stints.items ≡ replicate l.counter None) × (length l.stints.items ≡ l.counter) × (l.lanes ≤ vec_capacity l.stints)
