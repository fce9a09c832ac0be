use Rattle.std.proofs.Common.{◌≡◌, ◌<◌, take, All}
use Rattle.evt_types.specs.declared.event.Reply.{Reply}
use Rattle.evt_types.specs.declared.event.Op.TheVariants as ops
use Rattle.event_ports.proofs.rows.count_forwards.Given as goal

abbrev pub invariant-loop-position : goal.invariant-loop-position
invariant-loop-position l = All (λ (r : Reply). (r.event.op ≡ ops.Forward) × (r.event.queue < l.queues)) (take l.position l.replies)
