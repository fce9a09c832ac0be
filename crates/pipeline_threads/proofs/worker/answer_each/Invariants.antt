use Rattle.std.proofs.Common.{take}
use Rattle.pipeline_threads.specs.Ports.{AreDue}
use Rattle.pipeline_threads.proofs.worker.answer_each.Given as goal

abbrev pub invariant-loop-delivery : goal.invariant-loop-delivery
invariant-loop-delivery g l = AreDue l.actions (take l.delivery-index l.deliveries) l.answers.items
