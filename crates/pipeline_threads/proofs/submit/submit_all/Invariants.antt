use Rattle.std.proofs.Common.{◌≡◌, ◌≤◌, length, take}
use Rattle.event_ports.specs.Lanes.{SubmitsAll}
use Rattle.event_ports.specs.Ports.{counts_of, hand}
use Rattle.event_device.specs.Device.{site_of}
use Rattle.pipeline_threads.proofs.submit.submit_all.Given as goal

abbrev pub invariant-loop : goal.invariant-loop
invariant-loop g l =
    (goal.iterator-loop g).can_next l.iterator' × (goal.iterator-loop g).is_finite l.iterator' × (site_of l.port ≡ site_of l.initial.port) × (l.sent ≤ length l.events)
    × SubmitsAll (take l.sent l.events) (hand l.initial.port) (hand l.port) × ((counts_of l.port).dequeued ≡ (counts_of l.initial.port).dequeued)
