use Rattle.std.proofs.Common.{ap}
use Rattle.transcript_judge.proofs.RowLists.{kinds_set, nexts_set, taken_events}
use Rattle.transcript_judge.specs.Waiting.{Waits}
use Rattle.transcript_judge.proofs.waiting.take_from.Goals as goal

pub returns-clause-events : goal.returns-clause-events
returns-clause-events c = taken_events c.args.waiting.now.items c.args.queue c.take.new.self c.index_mut.result.now c.args.number c.requires c.index_mut.ensures.value c.take.ensures

pub returns-clause-next : goal.returns-clause-next
returns-clause-next c = nexts_set c.args.waiting.now.items c.args.queue c.take.new.self c.index_mut.result.now c.requires c.index_mut.ensures.value (ap (λ (w : Waits). w.next) c.take.ensures)

pub returns-clause-kinds : goal.returns-clause-kinds
returns-clause-kinds c = kinds_set c.args.waiting.now.items c.args.queue c.take.new.self c.index_mut.result.now c.requires c.index_mut.ensures.value (ap (λ (w : Waits). w.kind) c.take.ensures)
