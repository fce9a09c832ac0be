use Rattle.std.proofs.Common.{◌≡◌, ◌*◌, ◌==◌, count_by}
use Rattle.evt_types.specs.Plan.{level_of}
use Rattle.evt_types.specs.declared.event.Numbered.{Numbered}
use Rattle.parked_queue.specs.Parkings.{parted_by}
use Rattle.parked_queue.specs.Parts.{parts_of}
use Rattle.parked_queue.proofs.queues.ParkedQueues.count_at.Given as goal

abbrev pub invariant-loop-row : goal.invariant-loop-row
invariant-loop-row l = l.count ≡ count_by (λ (w : Numbered). level_of w.event == l.level.number) (parts_of (parted_by l.self-inside.lists l.asked) (4 * l.row))
